-- `fast_packet_rows` meets its contract: what the sizes come to picks the law of that case. Assumes nothing.
use Rattle.std.proofs.Common.{arith, sym, ◌∙◌}
use Rattle.std.proofs.lemmas.Result.{err_from_is_err_and}
use Rattle.splitter.proofs.SplitLaws.{rows_stop, split_small, split_count, split_room, rows_go_on}
use Rattle.splitter.proofs.fast_packet_rows.Goals as goal

pub returns-in_err-frames : goal.returns-in_err-frames
returns-in_err-frames c =
    let p = err_from_is_err_and c.from_residual.result c.from_residual.ensures.1 in
    rw (p.1, p.2) (rows_stop c.args.id c.args.sequence c.args.payload.now c.args.ids.now c.args.bytes.now c.args.lens.now c.frame_count-room.ensures (sym c.in_err-frames.was ∙ c.split_of.ensures))

pub lay_rows-requires : goal.lay_rows-requires
lay_rows-requires c =
    let e = sym c.in_ok-frames.was ∙ c.split_of.ensures in
    let n = split_count c.args.id c.args.sequence c.args.payload.now _ _ e in
    let m = split_room c.args.id c.args.sequence c.args.payload.now _ _ e in
    (omega (arith, m, c.frame_count-room.ensures), omega (arith, n), split_small c.args.id c.args.sequence c.args.payload.now _ _ e)

pub returns : goal.returns
returns c = rows_go_on c.args.id c.args.sequence c.args.payload.now c.args.ids.now c.args.bytes.now c.args.lens.now c.frame_count-room.ensures (sym c.in_ok-frames.was ∙ c.split_of.ensures) c.lay_rows.ensures.0 c.lay_rows.ensures.1 c.lay_rows.ensures.2
