-- `Mirror::own_stop` meets its contract: no place up to s has the key, and none before it is open and of the source. Assumes nothing.
use Rattle.std.proofs.Common.{◌+◌, ◌-◌, ◌<◌}
use Rattle.batch.specs.inner.Mirror.{key_at, own_at}
use Rattle.batch.specs.inner.Walks.{Past}
use Rattle.batch.proofs.mirror.Mirror.own_stop.Given as goal

abbrev pub invariant-loop-mode : goal.invariant-loop-mode
invariant-loop-mode l = (l.s < l.self.size) × Past (key_at l.self.keys l.key) l.from (l.s + 1) × Past (own_at l.mode l.self.keys l.self.owners l.self.lasts l.source l.time) l.from l.s

abbrev pub decreases-loop-mode : goal.decreases-loop-mode
decreases-loop-mode l = l.self.size - l.s
