-- `Mirror::first_stop` meets its contract: no place up to s has the key or is open. Assumes nothing.
use Rattle.std.proofs.Common.{sym, ◌∙◌, arith}
use Rattle.batch.specs.inner.Mirror.{open_at}
use Rattle.batch.proofs.WalkLaws.{key_here, key_gone, past_turn, past_end}
use Rattle.batch.proofs.mirror.Mirror.first_stop.Goals as goal

pub returns-then-here-key : goal.returns-then-here-key
returns-then-here-key c = (c.loop-s-test.true, c.loop-s.invariant.1, key_here _ _ _ c.if-here-key.true)

pub returns-then-is_open : goal.returns-then-is_open
unfolding open_at
returns-then-is_open c = let inv = c.loop-s.invariant in
    (c.loop-s-test.true, past_turn _ _ _ inv.1 (key_gone _ _ _ c.if-here-key.false), inv.2, sym c.is_open.ensures ∙ c.if-is_open.true)

pub loop-s-preserved : goal.loop-s-preserved
unfolding open_at
loop-s-preserved c = let inv = c.loop-s.invariant in
    (omega (arith, c.loop-s-test.true), past_turn _ _ _ inv.1 (key_gone _ _ _ c.if-here-key.false), past_turn _ _ _ inv.2 (sym c.is_open.ensures ∙ c.if-is_open.false))

pub returns : goal.returns
returns c = let inv = c.loop-s.invariant in
    (past_end _ _ _ _ inv.0 c.loop-s-test.false inv.1, past_end _ _ _ _ inv.0 c.loop-s-test.false inv.2)
