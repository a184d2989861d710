-- The iterator over a message's frames: document 01, "`FrameIterator`: index and bytes sent by value, payload beside."
use Rattle.std.specs.Prelude.{ℕ, List}
use Rattle.builder.specs.Next.{Step, of_answer, frame_in, next_of}
use Rattle.builder.specs.declared.FastPacketBuilder.{FastPacketBuilder}
use Rattle.builder.specs.declared.FrameIterator.{FrameIterator}
use Rattle.builder.specs.declared.Item.{Item}

-- a step, and the builder that the next one starts from
pub record Turn : Type 0 where
  pub builder : FastPacketBuilder
  pub answer : Step

abbrev pub turn_of : Item → Turn
turn_of r =
    record {
      builder = r.iterator.builder;
      answer =
          record {
            kind = of_answer r.answer;
            sent = frame_in r.answer;
            index = r.iterator.frame_index;
            bytes = r.iterator.bytes_sent;
          };
    }

-- no frame asked for yet, and no byte sent
abbrev pub started : FastPacketBuilder → FrameIterator
started b = record { builder = b; frame_index = 0; bytes_sent = 0 }

-- the next frame by steps 1 to 6, with the builder as it was
abbrev pub next_turn : FrameIterator → List ℕ → Turn
next_turn it p = record { builder = it.builder; answer = next_of it.builder it.frame_index it.bytes_sent p }
