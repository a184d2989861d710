-- `check_tx_row` meets its contract: it tells what the definition tells of the row. Assumes nothing.
use Rattle.oracle.proofs.BridgeTx.{check_told}
use Rattle.oracle.proofs.check_tx_row.Goals as goal

pub returns : goal.returns
returns g c = check_told (g.R.FrameRow.frames c.args.frames) c.args.source c.args.expected c.args.hours_base c.new.ensures c.scan_tx-last.ensures c.verdict.ensures
