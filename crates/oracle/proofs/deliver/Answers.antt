-- `deliver` meets its contract: one frame on. Assumes nothing.
use Rattle.oracle.proofs.RowLaws.{arena_on, list_on, counts_on}
use Rattle.oracle.proofs.deliver.Goals as goal

pub loop-i-preserved : goal.loop-i-preserved
loop-i-preserved g c = (
  counts_on c.loop-i.i c.loop-i.scan c.frame.result c.loop-i.invariant.0 c.lay-scan.ensures.0,
  list_on (g.R.FrameRow.frames c.args.frames.now) c.loop-i.i c.frame.result c.count-i-end.ensures.0 c.loop-i-test.true c.frame.ensures c.args.start c.args.list.now c.loop-i.scan c.loop-i.list c.lay-scan.ensures.0 c.lay-scan.ensures.1 c.loop-i.invariant.1,
  arena_on (g.R.FrameRow.frames c.args.frames.now) c.loop-i.i c.frame.result c.count-i-end.ensures.0 c.loop-i-test.true c.frame.ensures c.args.start c.args.arena.now c.loop-i.scan c.loop-i.arena c.lay-scan.ensures.0 c.lay-scan.ensures.2 c.loop-i.invariant.2,
)
