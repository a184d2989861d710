-- `eight_in` meets its contract: eight bytes, one by one. Assumes nothing.
use Rattle.oracle.proofs.RowLaws.{eight_read}
use Rattle.oracle.proofs.slice_rows.eight_in.Goals as goal

pub returns : goal.returns
returns c = eight_read c.args.bytes.now c.args.at
