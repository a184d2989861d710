-- `Mirror::first_stop` meets its contract: no place up to s has the key or is open. Assumes nothing.
use Rattle.std.proofs.Common.{◌≤◌}
use Rattle.batch.specs.inner.Mirror.{key_at, open_at}
use Rattle.batch.specs.inner.Walks.{Past}
use Rattle.batch.proofs.mirror.Mirror.first_stop.Given as goal

abbrev pub invariant-loop-s : goal.invariant-loop-s
invariant-loop-s l = (l.s ≤ l.self.size) × Past (key_at l.self.keys l.key) 0 l.s × Past (open_at l.mode l.self.keys l.self.lasts l.time) 0 l.s
