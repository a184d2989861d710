-- `Mirror::past_others` meets its contract: no place up to s has the key or is of the source. Assumes nothing.
use Rattle.std.proofs.Common.{sym, ◌∙◌, arith}
use Rattle.base.proofs.Bools.{or_left, or_right}
use Rattle.batch.proofs.WalkLaws.{past_four}
use Rattle.batch.proofs.mirror.Mirror.past_others.Goals as goal

pub loop-s-preserved : goal.loop-s-preserved
loop-s-preserved c = let inv = c.loop-s.invariant in
    let key = c.key_in_four in
    let source = c.source_in_four in (
      omega arith,
      past_four _ _ _ inv.1 (sym key.ensures ∙ or_left key.result source.result c.if-key_in_four-source_in_four.false),
      past_four _ _ _ inv.2 (sym source.ensures ∙ or_right key.result source.result c.if-key_in_four-source_in_four.false),
    )
