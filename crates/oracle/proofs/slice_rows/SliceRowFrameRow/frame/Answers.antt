-- `SliceRow::frame` meets its contract: what is read at place i is the row's frame there. Assumes nothing.
use Rattle.std.proofs.Common.{arith}
use Rattle.oracle.proofs.RowLaws.{row_has, frame_read}
use Rattle.oracle.proofs.slice_rows.SliceRowFrameRow.frame.Goals as goal

pub bounds-self-i : goal.bounds-self-i
bounds-self-i c = let s = c.args.self.now in (row_has s.ids.now s.bytes.now s.lens.now c.args.i (omega (arith, c.count.ensures, c.if-count-i.false))).0

pub eight_in-requires : goal.eight_in-requires
eight_in-requires c = let s = c.args.self.now in (row_has s.ids.now s.bytes.now s.lens.now c.args.i (omega (arith, c.count.ensures, c.if-count-i.false))).1

pub bounds-self-i-2 : goal.bounds-self-i-2
bounds-self-i-2 c = let s = c.args.self.now in (row_has s.ids.now s.bytes.now s.lens.now c.args.i (omega (arith, c.count.ensures, c.if-count-i.false))).2

pub returns : goal.returns
returns c = let s = c.args.self.now in frame_read s.ids.now s.bytes.now s.lens.now c.args.i (omega (arith, c.count.ensures, c.if-count-i.false)) _ _ c.eight_in.ensures
