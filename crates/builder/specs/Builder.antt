-- The builder of a message's frames: a new one, with the number that the caller holds then, and its setters.
use Rattle.std.specs.Prelude.{ℕ, ◌+◌, ◌%◌, Bool, ◌||◌, List, Option, Some, length, nat_lt}
use Rattle.can_id.specs.declared.CanIdBuilder.{CanIdBuilder}
use Rattle.fast_packet.specs.FastPacket.{listed_in}
use Rattle.builder.specs.declared.FastPacketBuilder.{FastPacketBuilder}
use Rattle.builder.specs.declared.MadeBuilder.{MadeBuilder}

-- "Fast framing applies if the PGN is listed or the payload is over 8 bytes."
abbrev pub fast_of : ℕ → List ℕ → ℕ → Bool
fast_of pgn pgns len = listed_in pgn pgns || nat_lt 8 len

-- "A new builder takes the number the caller holds, uses it modulo 8 as its sequence, and hands back that plus 1 modulo 8.
-- One number is spent on every builder, also for a single frame, a refusal to come, or an override. Priority starts at 6."
abbrev pub new_builder : ℕ → ℕ → Option ℕ → List ℕ → List ℕ → ℕ → MadeBuilder
new_builder pgn source destination payload pgns held =
    record {
      builder =
          record {
            pgn = pgn;
            source_address = source;
            destination = destination;
            priority = 6;
            sequence_id = held % 8;
            fast = fast_of pgn pgns (length payload);
          };
      sequence_id = (held % 8 + 1) % 8;
    }

-- "Each setter takes the builder and hands it back with one field set; priority and sequence setters keep the low 3 bits."
abbrev pub with_sequence : FastPacketBuilder → ℕ → FastPacketBuilder
with_sequence b s =
    record {
      pgn = b.pgn;
      source_address = b.source_address;
      destination = b.destination;
      priority = b.priority;
      sequence_id = s % 8;
      fast = b.fast;
    }

abbrev pub with_priority : FastPacketBuilder → ℕ → FastPacketBuilder
with_priority b p =
    record {
      pgn = b.pgn;
      source_address = b.source_address;
      destination = b.destination;
      priority = p % 8;
      sequence_id = b.sequence_id;
      fast = b.fast;
    }

abbrev pub with_destination : FastPacketBuilder → ℕ → FastPacketBuilder
with_destination b d =
    record {
      pgn = b.pgn;
      source_address = b.source_address;
      destination = Some d;
      priority = b.priority;
      sequence_id = b.sequence_id;
      fast = b.fast;
    }

-- what step 3 builds the identifier of: "Identifier, with priority modulo 8"
abbrev pub id_builder : FastPacketBuilder → CanIdBuilder
id_builder b =
    record {
      priority = b.priority % 8;
      pgn = b.pgn;
      source_address = b.source_address;
      destination = b.destination;
    }
