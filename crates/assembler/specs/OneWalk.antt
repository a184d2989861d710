-- Document 02, No. 8: "Choose in one walk, remembering three candidates; the chosen slot and its promise stay the same for every pool".
use Rattle.std.specs.Prelude.{List, ◌≡◌, ℕ}
use Rattle.std.proofs.Math.Option.{Option}
use Rattle.base.specs.OneWalk.{never, one_walk}
use Rattle.session.specs.declared.Heard.{Heard}
use Rattle.session.specs.Rules.{Rules}
use Rattle.session.specs.Heads.{has_key, is_free, is_free_of_source, has_live_key}
use Rattle.assembler.specs.Slots.{Slot, on_head, chosen, live}

-- a first frame's walk: the slot with its key ends it; the first free slot with its source and the first free slot are remembered
unfoldable pub walked_choice : Rules → Heard → List Slot → Option ℕ
walked_choice R f ss = one_walk (on_head (has_key R f)) (on_head (is_free_of_source R f)) (on_head (is_free R f)) ss

-- a continuation's walk: the live slot with its key ends it, and nothing is remembered
unfoldable pub walked_live : Rules → Heard → List Slot → Option ℕ
walked_live R f ss = one_walk (on_head (has_live_key R f)) never never ss

-- whatever the slots are, possible or not, and whatever counts as the same key and as silence
pub record OneWalk : Type 0 where
  pub first : (R : Rules) (f : Heard) (ss : List Slot) → walked_choice R f ss ≡ chosen R f ss
  pub continuation : (R : Rules) (f : Heard) (ss : List Slot) → walked_live R f ss ≡ live R f ss
