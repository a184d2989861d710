-- `ways::ran_on` meets its contract: seven bytes are the lesser of seven and what is missing. Assumes nothing.
use Rattle.std.proofs.Common.{◌≡◌, ◌-◌, min, arith}
use Rattle.session.specs.Frames.{index_of}
use Rattle.session.specs.Heads.{wanted, copied_head}
use Rattle.batch.proofs.ways.ran_on.Goals as goal

pub returns : goal.returns
unfolding copied_head index_of wanted
returns c =
    let h = c.args.h in
    let seven : min 7 (h.expected_size - h.current_size) ≡ 7 = omega (arith, c.requires) in
    rw seven
