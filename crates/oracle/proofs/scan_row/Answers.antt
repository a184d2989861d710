-- `scan_row` meets its contract: one frame on. Assumes nothing.
use Rattle.oracle.proofs.RowLaws.{scan_on, counts_on}
use Rattle.oracle.proofs.scan_row.Goals as goal

pub loop-i-preserved : goal.loop-i-preserved
loop-i-preserved g c = (
  counts_on c.loop-i.i c.loop-i.scan c.frame.result c.loop-i.invariant.0 c.step-scan.ensures,
  scan_on (g.R.FrameRow.frames c.args.frames.now) c.loop-i.i c.frame.result c.count-i-end.ensures.0 c.loop-i-test.true c.frame.ensures c.args.start c.loop-i.scan c.step-scan.ensures c.loop-i.invariant.1,
)
