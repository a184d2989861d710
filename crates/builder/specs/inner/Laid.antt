-- A frame but for its identifier, and where the message has got to after it, as the code lays it out. Nobody needs to believe these definitions: only the
-- code's own contracts cite them.
use Rattle.std.specs.Prelude.{ℕ, ◌%◌, Bool, List, ◌∷◌, length, ◌==◌}
use Rattle.base.specs.Pick.{pick}
use Rattle.base.specs.Lists.{fill}
use Rattle.builder.specs.FrameBytes.{header_of, later_frame_bytes, raw_frame_bytes, sent_by_first, sent_by_later, index_after}
use Rattle.builder.specs.Next.{Step, frame_of, sent_step}
use Rattle.builder.specs.declared.frame_bytes.Laid.{Laid}

-- a first frame with this number in byte 1
abbrev pub first_laid : ℕ → ℕ → ℕ → List ℕ → Laid
first_laid sequence index size p =
    record {
      «data» = header_of sequence index ∷ size ∷ fill 6 p;
      len = 8;
      frame_index = index_after index;
      bytes_sent = sent_by_first p;
    }

abbrev pub later_laid : ℕ → ℕ → ℕ → List ℕ → Laid
later_laid sequence index sent p =
    record {
      «data» = later_frame_bytes sequence index sent p;
      len = 8;
      frame_index = index_after index;
      bytes_sent = sent_by_later sent p;
    }

abbrev pub raw_laid : ℕ → List ℕ → Laid
raw_laid index p = record { «data» = raw_frame_bytes p; len = length p; frame_index = index; bytes_sent = length p }

-- which of the three: a byte holds the length of every message that a builder sends, and of a longer payload the low eight bits
unfoldable pub laid_of : Bool → ℕ → ℕ → ℕ → List ℕ → Laid
laid_of fast sequence index sent p =
    pick fast
    (pick (sent == 0) (first_laid sequence index (length p % 256) p) (later_laid sequence index sent p))
    (raw_laid index p)

-- the step that it is with an identifier
abbrev pub laid_step : ℕ → Laid → Step
laid_step id l = sent_step (frame_of id l.«data» l.len) l.frame_index l.bytes_sent
