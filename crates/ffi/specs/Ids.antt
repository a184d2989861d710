-- The parts of an identifier and its builder, as numbers.
use Rattle.std.specs.Prelude.{ℕ, List, ltb}
use Rattle.base.specs.Pick.{pick}
use Rattle.can_id.specs.Read.{read_of}
use Rattle.can_id.specs.Build.{build_of, new_id_builder, id_with_priority, id_with_destination}
use Rattle.can_id.specs.declared.CanIdBuilder.{CanIdBuilder}
use Rattle.numbers.specs.Numbers.{to_address, Answered, ToldInFour}

-- ---- read: `hf_can_id_read`
abbrev pub IdRead : ℕ → List ℕ → ℕ → List ℕ → Type 0
IdRead id before code after = ToldInFour (read_of id) before code after

-- ---- built

-- a builder of these parts as they are
unfoldable pub builder_of_parts : ℕ → ℕ → ℕ → ℕ → CanIdBuilder
builder_of_parts priority pgn source destination = record { priority = priority; pgn = pgn; source_address = source; destination = to_address destination }

-- a fresh builder, with the priority and the destination set where they are below 256
unfoldable pub set_priority : CanIdBuilder → ℕ → CanIdBuilder
set_priority b p = pick (ltb p 256) (id_with_priority b p) b

unfoldable pub set_destination : CanIdBuilder → ℕ → CanIdBuilder
set_destination b d = pick (ltb d 256) (id_with_destination b d) b

unfoldable pub set_of : ℕ → ℕ → ℕ → ℕ → CanIdBuilder
set_of pgn source priority destination = set_destination (set_priority (new_id_builder pgn source) priority) destination

-- a fresh builder, with both set
unfoldable pub both_of : ℕ → ℕ → ℕ → ℕ → CanIdBuilder
both_of pgn source priority destination = id_with_destination (id_with_priority (new_id_builder pgn source) priority) destination

-- `hf_can_id_build`, `hf_can_id_build_with` and `hf_can_id_build_to`
abbrev pub PartsBuilt : ℕ → ℕ → ℕ → ℕ → ℕ → ℕ → Type 0
PartsBuilt priority pgn source destination code value = Answered (build_of (builder_of_parts priority pgn source destination)) code value

abbrev pub SetBuilt : ℕ → ℕ → ℕ → ℕ → ℕ → ℕ → Type 0
SetBuilt pgn source priority destination code value = Answered (build_of (set_of pgn source priority destination)) code value

abbrev pub BothBuilt : ℕ → ℕ → ℕ → ℕ → ℕ → ℕ → Type 0
BothBuilt pgn source priority destination code value = Answered (build_of (both_of pgn source priority destination)) code value
