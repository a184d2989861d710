-- `reassemble_row` meets its contract: what the row comes to picks the law of that case. Assumes nothing.
use Rattle.std.proofs.Common.{sym, ◌∙◌}
use Rattle.std.proofs.lemmas.Result.{err_from_is_err_and}
use Rattle.oracle.proofs.Bridge.{strict_stops, strict_goes_on}
use Rattle.oracle.proofs.reassemble_row.Goals as goal

pub returns-in_err-count : goal.returns-in_err-count
returns-in_err-count g c =
    let p = err_from_is_err_and c.from_residual.result c.from_residual.ensures.1 in
    rw (p.1, p.2) (strict_stops (g.R.FrameRow.frames c.args.frames) c.args.source c.args.pgn c.args.list.now c.args.arena.now c.new-start.ensures c.scan_row.ensures (sym c.in_err-count.was ∙ c.verdict.ensures))

pub returns : goal.returns
returns g c = strict_goes_on (g.R.FrameRow.frames c.args.frames) c.args.source c.args.pgn c.args.list.now c.args.arena.now c.new-start.ensures c.scan_row.ensures (sym c.in_ok-count.was ∙ c.verdict.ensures) c.deliver.ensures.0 c.deliver.ensures.1
