-- `Mirror::next_key` meets its contract: no place up to s has the key. Assumes nothing.
use Rattle.batch.specs.inner.Mirror.{key_at}
use Rattle.batch.specs.inner.Walks.{Past}
use Rattle.batch.proofs.mirror.Mirror.next_key.Given as goal

abbrev pub invariant-loop-s : goal.invariant-loop-s
invariant-loop-s l = Past (key_at l.self.keys l.key) l.from l.s
