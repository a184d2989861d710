-- What the entries of the frame builder leave, on builders and places of numbers.
use Rattle.std.specs.Prelude.{ℕ, List, ◌≡◌}
use Rattle.builder.specs.Builder.{new_builder, with_sequence, with_priority, with_destination}
use Rattle.builder.specs.Next.{Step, next_of}
use Rattle.builder.specs.Frames.{started, next_turn}
use Rattle.builder.specs.declared.MadeBuilder.{MadeBuilder}
use Rattle.numbers.specs.Numbers.{to_address}
use Rattle.numbers.specs.Frames.{builder_from, builder_numbers, BuilderLeft, iterator_from, place_numbers, StepLeft, step_after, place_laid}

-- ---- made and set
-- a new builder, to a destination that is a number
unfoldable pub new_builder_to : ℕ → ℕ → ℕ → List ℕ → List ℕ → ℕ → MadeBuilder
new_builder_to pgn source destination payload pgns held = new_builder pgn source (to_address destination) payload pgns held

-- `hf_raw_builder_new`
abbrev pub NewBuilderLeft : ℕ → ℕ → ℕ → List ℕ → List ℕ → ℕ → ℕ → List ℕ → Type 0
NewBuilderLeft pgn source destination payload pgns held code builder = BuilderLeft (new_builder_to pgn source destination payload pgns held) code builder

-- the setters, in place
unfoldable pub sequence_set : List ℕ → ℕ → List ℕ
sequence_set builder x = builder_numbers (with_sequence (builder_from builder) x)

unfoldable pub priority_set : List ℕ → ℕ → List ℕ
priority_set builder x = builder_numbers (with_priority (builder_from builder) x)

unfoldable pub destination_set : List ℕ → ℕ → List ℕ
destination_set builder x = builder_numbers (with_destination (builder_from builder) x)

-- ---- the next frame
-- the memory lent for a frame: its bytes, its numbers, and the place after it
pub record FrameMemory : Type 0 where
  pub bytes : List ℕ
  pub numbers : List ℕ
  pub place : List ℕ

-- the next frame of a builder of numbers, at any frame index and bytes sent
unfoldable pub next_with : List ℕ → ℕ → ℕ → List ℕ → Step
next_with builder index sent payload = next_of (builder_from builder) index sent payload

-- `hf_raw_next_frame`
pub record NextFrameLeft (builder : List ℕ) (index sent : ℕ) (payload : List ℕ) (code : ℕ) (after : FrameMemory) : Type 0 where
  pub asked : StepLeft (next_with builder index sent payload) code after.bytes after.numbers
  pub follows : after.place ≡ step_after (next_with builder index sent payload)

-- ---- frame by frame
-- `hf_raw_builder_build`: the place before the first frame
unfoldable pub started_place : List ℕ → List ℕ
started_place builder = place_numbers (started (builder_from builder))

-- the next frame of an iterator of numbers, whose builder stays as it is
unfoldable pub turn_with : List ℕ → List ℕ → List ℕ → Step
turn_with builder place payload = (next_turn (iterator_from builder place) payload).answer

-- `hf_raw_frame_iterator_next`: the place goes on in the lent memory
pub record TurnLeft (builder payload place : List ℕ) (code : ℕ) (after : FrameMemory) : Type 0 where
  pub asked : StepLeft (turn_with builder place payload) code after.bytes after.numbers
  pub goes_on : after.place ≡ place_laid place (turn_with builder place payload)
