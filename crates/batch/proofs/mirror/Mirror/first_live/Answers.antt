-- `Mirror::first_live` meets its contract: no place up to i is live with the key. Assumes nothing.
use mathlib.Core.Bool.{not}
use mathlib.Core.Path.{ap}
use Rattle.batch.specs.inner.Mirror.{live_in}
use Rattle.batch.proofs.WalkLaws.{live_other, live_here, live_gone, past_turn, all_found, all_missed}
use Rattle.batch.proofs.mirror.Mirror.first_live.Goals.{else-self-i-via-then-self-i+else-not-is_silent, else-self-i-via-else-self-i}
use Rattle.batch.proofs.mirror.Mirror.first_live.Goals as goal

pub returns-then-not-is_silent : goal.returns-then-not-is_silent
unfolding live_in
returns-then-not-is_silent c =
    (all_found _ _ _ c.loop-i-test.true c.loop-i.invariant (live_here _ _ _ _ _ _ c.if-self-i.true _ c.is_silent.ensures (ap not c.if-not-is_silent.true)), c.loop-i-test.true)

pub loop-i-preserved : goal.loop-i-preserved
loop-i-preserved c =
    elim c.else-self-i.branch [
      | else-self-i-via-then-self-i+else-not-is_silent w ↦ past_turn _ _ _ c.loop-i.invariant (live_gone _ _ _ _ _ _ w.if-self-i.true _ w.is_silent.ensures (ap not w.if-not-is_silent.false))
      | else-self-i-via-else-self-i w ↦ past_turn _ _ _ c.loop-i.invariant (live_other _ _ _ _ _ _ w.if-self-i.false)
    ]

pub returns : goal.returns
unfolding live_in
returns c = (all_missed _ _ _ c.loop-i-test.false c.loop-i.auto.i-end c.loop-i.invariant, tt)
