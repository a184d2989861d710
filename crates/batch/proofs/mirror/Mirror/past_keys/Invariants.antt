-- `Mirror::past_keys` meets its contract: no place up to s has the key. Assumes nothing.
use Rattle.std.proofs.Common.{◌-◌, ◌≤◌}
use Rattle.batch.specs.inner.Mirror.{key_at}
use Rattle.batch.specs.inner.Walks.{Past}
use Rattle.batch.proofs.mirror.Mirror.past_keys.Given as goal

abbrev pub invariant-loop-s : goal.invariant-loop-s
invariant-loop-s l = (l.s ≤ l.self.size) × Past (key_at l.self.keys l.key) l.from l.s

abbrev pub decreases-loop-s : goal.decreases-loop-s
decreases-loop-s l = l.self.size - l.s
