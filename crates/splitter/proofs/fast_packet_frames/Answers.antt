-- `fast_packet_frames` meets its contract: what the sizes come to picks the law of that case. Assumes nothing.
use Rattle.std.proofs.Common.{arith, sym, ◌∙◌}
use Rattle.std.proofs.lemmas.Result.{err_from_is_err_and}
use Rattle.splitter.proofs.SplitLaws.{split_stops, split_small, split_count, split_room, split_goes_on}
use Rattle.splitter.proofs.fast_packet_frames.Goals as goal

pub returns-in_err-count : goal.returns-in_err-count
returns-in_err-count c =
    let p = err_from_is_err_and c.from_residual.result c.from_residual.ensures.1 in
    rw (p.1, p.2) (split_stops c.args.id c.args.sequence c.args.payload.now c.args.row.now (sym c.in_err-count.was ∙ c.split_of.ensures))

pub lay-requires : goal.lay-requires
lay-requires c =
    let e = sym c.in_ok-count.was ∙ c.split_of.ensures in
    let n = split_count c.args.id c.args.sequence c.args.payload.now _ _ e in
    (split_room c.args.id c.args.sequence c.args.payload.now _ _ e, omega (arith, n), split_small c.args.id c.args.sequence c.args.payload.now _ _ e)

pub returns : goal.returns
returns c = split_goes_on c.args.id c.args.sequence c.args.payload.now c.args.row.now (sym c.in_ok-count.was ∙ c.split_of.ensures) c.lay.ensures
