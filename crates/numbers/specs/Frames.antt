-- The frame builder, its iterator and its answers, as numbers.
use Rattle.std.specs.Prelude.{ℕ, ◌%◌, List, [], ◌∷◌, ◌≡◌, get_or}
use Rattle.base.specs.Pick.{pick}
use Rattle.session.specs.Kinds.{end_number}
use Rattle.builder.specs.Next.{NextAnswer, Step, frame, end, refusal, of_next}
use Rattle.builder.specs.declared.FastPacketBuilder.{FastPacketBuilder}
use Rattle.builder.specs.declared.MadeBuilder.{MadeBuilder}
use Rattle.builder.specs.declared.FrameIterator.{FrameIterator}
use Rattle.builder.specs.declared.Next.{Next}
use Rattle.numbers.specs.Numbers.{is_set, laid_on, to_address, address_of, carries_of}

-- a builder is six numbers: PGN, source, destination, priority, sequence, and whether it is fast; each is read in the width of its field
unfoldable pub builder_from : List ℕ → FastPacketBuilder
builder_from n =
    record {
      pgn = get_or n 0 0 % 0x1_0000_0000;
      source_address = get_or n 1 0 % 0x100;
      destination = to_address (get_or n 2 0);
      priority = get_or n 3 0 % 0x100;
      sequence_id = get_or n 4 0 % 0x100;
      fast = is_set (get_or n 5 0);
    }

unfoldable pub builder_numbers : FastPacketBuilder → List ℕ
builder_numbers b =
    b.pgn ∷ b.source_address ∷ address_of b.destination ∷ b.priority ∷ b.sequence_id ∷ pick b.fast 1 0 ∷ []

-- what a new builder leaves: the number that the caller holds from now on is returned, and its numbers are lent out
pub record BuilderLeft (m : MadeBuilder) (held : ℕ) (builder : List ℕ) : Type 0 where
  pub told : held ≡ m.sequence_id
  pub made : builder ≡ builder_numbers m.builder

-- an iterator is a builder and its place: frame index and bytes sent
unfoldable pub iterator_from : List ℕ → List ℕ → FrameIterator
iterator_from n place = record { builder = builder_from n; frame_index = get_or place 0 0 % 0x100; bytes_sent = get_or place 1 0 }

unfoldable pub place_numbers : FrameIterator → List ℕ
place_numbers t = t.frame_index ∷ t.bytes_sent ∷ []

-- what asking for the next frame returns: 0 for a frame, the list's number for End, a refusal's own
abbrev pub next_code : NextAnswer → ℕ
next_code frame = 0
next_code end = end_number
next_code (refusal n l) = n

abbrev pub kind_carries : NextAnswer → ℕ
kind_carries frame = 0
kind_carries end = 0
kind_carries (refusal n l) = carries_of l

-- what asking for the next frame leaves: what is returned; the frame's bytes; its identifier and length, and what a refusal carries
pub record StepLeft (s : Step) (code : ℕ) (bytes numbers : List ℕ) : Type 0 where
  pub told : code ≡ next_code s.kind
  pub filled : bytes ≡ s.sent.«data»
  pub named : numbers ≡ s.sent.id.0 ∷ s.sent.len ∷ kind_carries s.kind ∷ []

-- the frame index and the bytes sent that follow
abbrev pub step_after : Step → List ℕ
step_after s = s.index ∷ s.bytes ∷ []

-- and over a place, by the rule of `laid_on`
unfoldable pub place_laid : List ℕ → Step → List ℕ
place_laid place s = laid_on (get_or place 0 0) (get_or place 0 0 % 0x100) s.index ∷ s.bytes ∷ []

-- the same three of an answer of the code
abbrev pub NextLeft : Next → ℕ → List ℕ → List ℕ → Type 0
NextLeft n code bytes numbers = StepLeft (of_next n) code bytes numbers

abbrev pub after_next : Next → List ℕ
after_next n = step_after (of_next n)

abbrev pub place_on : List ℕ → Next → List ℕ
place_on place n = place_laid place (of_next n)
