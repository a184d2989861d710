-- `Mirror::past_keys` meets its contract: no place up to s has the key. Assumes nothing.
use Rattle.std.proofs.Common.{sym, ◌∙◌, arith}
use Rattle.batch.proofs.WalkLaws.{past_four}
use Rattle.batch.proofs.mirror.Mirror.past_keys.Goals as goal

pub loop-s-preserved : goal.loop-s-preserved
loop-s-preserved c = (omega arith, past_four _ _ _ c.loop-s.invariant.1 (sym c.key_in_four.ensures ∙ c.if-key_in_four.false))
