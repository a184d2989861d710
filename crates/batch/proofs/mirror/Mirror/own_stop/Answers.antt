-- `Mirror::own_stop` meets its contract: no place up to s has the key, and none before it is open and of the source. Assumes nothing.
use Rattle.std.proofs.Common.{sym, ◌∙◌}
use Rattle.batch.specs.inner.Mirror.{open_at, own_at}
use Rattle.batch.proofs.WalkLaws.{key_here, key_gone, own_fails, past_turn, past_join, past_leap, past_end}
use Rattle.batch.proofs.mirror.Mirror.own_stop.Goals as goal

pub returns-then-is_own : goal.returns-then-is_own
unfolding own_at open_at
returns-then-is_own c = let inv = c.loop-mode.invariant in
    (inv.0, inv.1, inv.2, sym c.is_own.ensures ∙ c.if-is_own.true)

pub returns-then-self-s : goal.returns-then-self-s
returns-then-self-s c = let inv = c.loop-mode.invariant in
    let leapt = c.past_others-s.ensures in (
      past_end _ _ _ _ leapt.0 c.if-self-s.true (past_join _ _ _ _ inv.1 leapt.1),
      past_end _ _ _ _ leapt.0 c.if-self-s.true (past_leap _ _ _ _ _ _ _ _ _ inv.2 (own_fails _ _ _ _ _ _ _ _ c.is_own.ensures c.if-is_own.false) leapt.2),
    )

pub returns-then-self-s-2 : goal.returns-then-self-s-2
returns-then-self-s-2 c = (c.if-self-s.false, past_join _ _ _ _ c.loop-mode.invariant.1 c.past_others-s.ensures.1, key_here _ _ _ c.if-self-s-2.true)

pub loop-mode-preserved : goal.loop-mode-preserved
loop-mode-preserved c = let inv = c.loop-mode.invariant in
    let leapt = c.past_others-s.ensures in (
      c.if-self-s.false,
      past_turn _ _ _ (past_join _ _ _ _ inv.1 leapt.1) (key_gone _ _ _ c.if-self-s-2.false),
      past_leap _ _ _ _ _ _ _ _ _ inv.2 (own_fails _ _ _ _ _ _ _ _ c.is_own.ensures c.if-is_own.false) leapt.2,
    )
