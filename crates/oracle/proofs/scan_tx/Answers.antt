-- `scan_tx` meets its contract: one frame on. Assumes nothing.
use Rattle.oracle.proofs.RowLaws.{tx_on, counts_tx}
use Rattle.oracle.proofs.scan_tx.Goals as goal

pub loop-i-preserved : goal.loop-i-preserved
loop-i-preserved g c = (
  counts_tx c.loop-i.i c.loop-i.tx c.frame.result c.loop-i.invariant.0 c.step-tx.ensures,
  tx_on (g.R.FrameRow.frames c.args.frames.now) c.loop-i.i c.frame.result c.count-i-end.ensures.0 c.loop-i-test.true c.frame.ensures c.args.start c.loop-i.tx c.step-tx.ensures c.loop-i.invariant.1,
)
