-- One walk chooses the slot that document 01's three walks choose. Assumes nothing.
use Rattle.base.proofs.OneWalk.{one_walk_is_three, one_walk_alone}
use Rattle.session.specs.Heads.{has_key, is_free, is_free_of_source, has_live_key}
use Rattle.assembler.specs.Slots.{on_head, chosen, live}
use Rattle.assembler.specs.OneWalk.{walked_choice, walked_live, OneWalk}

pub one_walk_lem : OneWalk
unfolding walked_choice walked_live chosen live
one_walk_lem =
    record {
      first = λ R f ss. one_walk_is_three (on_head (has_key R f)) (on_head (is_free_of_source R f)) (on_head (is_free R f)) ss;
      continuation = λ R f ss. one_walk_alone (on_head (has_live_key R f)) ss;
    }
