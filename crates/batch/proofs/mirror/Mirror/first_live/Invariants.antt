-- `Mirror::first_live` meets its contract: no place up to i is live with the key. Assumes nothing.
use Rattle.batch.specs.inner.Mirror.{live_at}
use Rattle.batch.specs.inner.Walks.{Past}
use Rattle.batch.proofs.mirror.Mirror.first_live.Given as goal

abbrev pub invariant-loop-i : goal.invariant-loop-i
invariant-loop-i l = Past (live_at l.mode l.self.keys l.self.lasts l.key l.time) 0 l.i
