-- `Mirror::past_others` meets its contract: no place up to s has the key or is of the source. Assumes nothing.
use Rattle.std.proofs.Common.{◌-◌, ◌≤◌}
use Rattle.batch.specs.inner.Mirror.{key_at}
use Rattle.batch.specs.inner.Walks.{owner_at, Past}
use Rattle.batch.proofs.mirror.Mirror.past_others.Given as goal

abbrev pub invariant-loop-s : goal.invariant-loop-s
invariant-loop-s l = (l.s ≤ l.self.size) × Past (key_at l.self.keys l.key) l.from l.s × Past (owner_at l.self.owners l.source) l.from l.s

abbrev pub decreases-loop-s : goal.decreases-loop-s
decreases-loop-s l = l.self.size - l.s
