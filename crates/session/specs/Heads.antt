-- A slot's head, which is a slot but for its bytes: what document 01 calls impossible, silent, free and expired, and the heads that a frame leaves.
use Rattle.std.specs.Prelude.{Bool, true, false, not, ◌&&◌, ◌||◌, ℕ, ◌+◌, ◌*◌, ◌-◌, min, eqb, ltb, leb}
use Rattle.fast_packet.specs.FastPacket.{max_payload}
use Rattle.session.specs.declared.Head.{Head}
use Rattle.session.specs.declared.Heard.{Heard}
use Rattle.session.specs.Rules.{Key, Rules}
use Rattle.session.specs.Frames.{sequence_of, index_of, size_of, key_of}

-- "A fresh slot is idle with zeros."
unfoldable pub fresh_head : Head
fresh_head =
    record {
      in_progress = false;
      source_address = 0;
      sequence_id = 0;
      last_frame_index = 0;
      pgn = 0;
      part = 0;
      expected_size = 0;
      current_size = 0;
      last_seen_ms = 0;
    }

unfoldable pub head_key : Head → Key
head_key h = record { source = h.source_address; pgn = h.pgn; sequence = h.sequence_id; part = h.part }

-- "an in-progress slot .. has sequence over 7, expected size outside 7..223, current size other than 6 + 7 × last index, or current size not below expected";
-- document 02, No. 12: or "an in-progress slot of the old kind with a destination, or of the new with a part that its PGN's PF doesn't allow"
unfoldable pub impossible_head : Rules → Head → Bool
impossible_head R h =
    h.in_progress && (ltb 7 h.sequence_id || (ltb h.expected_size 7 || (ltb max_payload h.expected_size
    || (not (eqb h.current_size (6 + 7 * h.last_frame_index)) || (not (ltb h.current_size h.expected_size) || not (R.allowed h.pgn h.part))))))

-- "in progress with this key, expired or not"
unfoldable pub has_key : Rules → Heard → Head → Bool
has_key R f h = h.in_progress && R.same_key (head_key h) (key_of f)

unfoldable pub is_silent : Rules → Heard → Head → Bool
is_silent R f h = R.silent f.now_ms h.last_seen_ms

-- "A slot is free if idle or silent over 500."
unfoldable pub is_free : Rules → Heard → Head → Bool
is_free R f h = not h.in_progress || is_silent R f h

-- "free .. with this source (an idle slot keeps its last source, 0 when fresh)"
unfoldable pub is_free_of_source : Rules → Heard → Head → Bool
is_free_of_source R f h = is_free R f h && eqb h.source_address f.source_address

-- "in-progress .. with this key not silent over 500"
unfoldable pub has_live_key : Rules → Heard → Head → Bool
has_live_key R f h = has_key R f h && not (is_silent R f h)

-- "in progress and silent over 500"
unfoldable pub is_expired : Rules → Heard → Head → Bool
is_expired R f h = h.in_progress && is_silent R f h

-- "Then it opens: first six bytes stored, last index 0, time now"
unfoldable pub opened_head : Heard → Head
opened_head f =
    record {
      in_progress = true;
      source_address = f.source_address;
      sequence_id = sequence_of f;
      last_frame_index = 0;
      pgn = f.pgn;
      part = f.part;
      expected_size = size_of f;
      current_size = 6;
      last_seen_ms = f.now_ms;
    }

-- "reset (idle; PGN, sequence, sizes and index 0; source, buffer and time kept)"; "A reset makes the part none"
unfoldable pub reset_head : Head → Head
reset_head h =
    record {
      in_progress = false;
      source_address = h.source_address;
      sequence_id = 0;
      last_frame_index = 0;
      pgn = 0;
      part = 0;
      expected_size = 0;
      current_size = 0;
      last_seen_ms = h.last_seen_ms;
    }

-- "the lesser of 7 and what is missing"
unfoldable pub wanted : Head → ℕ
wanted h = min 7 (h.expected_size - h.current_size)

-- the index is "last index + 1"
unfoldable pub in_turn : Heard → Head → Bool
in_turn f h = eqb (index_of f) (h.last_frame_index + 1)

-- document 02, No. 5: it "lacks a byte that the session needs"; they follow byte 0
unfoldable pub cut_next : Heard → Head → Bool
cut_next f h = ltb f.length (1 + wanted h)

-- the continuation that the session waits for; any other breaks it
unfoldable pub is_next : Heard → Head → Bool
is_next f h = in_turn f h && not (cut_next f h)

-- "Otherwise copy .., set index and time"
unfoldable pub copied_head : Heard → Head → Head
copied_head f h =
    record {
      in_progress = h.in_progress;
      source_address = h.source_address;
      sequence_id = h.sequence_id;
      last_frame_index = index_of f;
      pgn = h.pgn;
      part = h.part;
      expected_size = h.expected_size;
      current_size = h.current_size + wanted h;
      last_seen_ms = f.now_ms;
    }

-- "when all is there"
unfoldable pub all_there : Head → Bool
all_there h = leb h.expected_size h.current_size
