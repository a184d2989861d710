-- `SliceRow::count` meets its contract: the row has as many frames as its slices. Assumes nothing.
use Rattle.std.proofs.Common.{arith, sym, ◌∙◌}
use Rattle.oracle.proofs.RowLaws.{row_long}
use Rattle.oracle.proofs.slice_rows.SliceRowFrameRow.count.Goals as goal

pub returns : goal.returns
returns c = let s = c.args.self.now in (c.frame_count.ensures ∙ sym (row_long s.ids.now s.bytes.now s.lens.now), omega (arith, c.frame_count.ensures))
