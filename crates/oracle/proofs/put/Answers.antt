-- `put` meets its contract: one more is laid, or left out. Assumes nothing.
use Rattle.std.proofs.Common.{◌∙◌}
use Rattle.oracle.proofs.Grows.{put_turn, put_past}
use Rattle.oracle.proofs.put.Goals.{then-at-i, else-at-i}
use Rattle.oracle.proofs.put.Goals as goal

pub loop-i-preserved : goal.loop-i-preserved
loop-i-preserved g c =
    elim c.if-at-i.branch [
      | then-at-i w ↦ w.row-is ∙ put_turn c.args.row.now c.args.values.now c.args.at c.loop-i.i w.index-values-i.result c.loop-i.row c.loop-i-test.true w.index-values-i.is c.loop-i.invariant
      | else-at-i w ↦ w.row-is ∙ put_past c.args.row.now c.args.values.now c.args.at c.loop-i.i c.loop-i.row c.loop-i-test.true c.loop-i.invariant w.if-at-i.false
    ]
