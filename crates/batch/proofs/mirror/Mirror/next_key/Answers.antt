-- `Mirror::next_key` meets its contract: no place up to s has the key. Assumes nothing.
use Rattle.batch.proofs.WalkLaws.{key_here, key_gone, past_turn, first_found, first_missed}
use Rattle.batch.proofs.mirror.Mirror.next_key.Goals as goal

pub returns-then-self-s : goal.returns-then-self-s
returns-then-self-s c = (first_found _ _ _ _ c.loop-s-test.true c.loop-s.invariant (key_here _ _ _ c.if-self-s.true), c.loop-s-test.true)

pub loop-s-preserved : goal.loop-s-preserved
loop-s-preserved c = past_turn _ _ _ c.loop-s.invariant (key_gone _ _ _ c.if-self-s.false)

pub returns : goal.returns
returns c = (first_missed _ _ _ _ c.loop-s-test.false (c.loop-s.auto.s-end c.past_keys-s.ensures.0) c.loop-s.invariant, tt)
