-- The bytes of a frame, and where the message has got to after it: steps 5 and 6 of document 01.
use Rattle.std.specs.Prelude.{ℕ, ◌+◌, ◌-◌, ◌*◌, ◌%◌, min, List, ◌∷◌, length, drop}
use Rattle.base.specs.Lists.{fill}

-- ---- step 5: "the payload and then 0xFF up to eight bytes"
abbrev pub raw_frame_bytes : List ℕ → List ℕ
raw_frame_bytes p = fill 8 p

-- ---- step 6: "byte 0 is (sequence modulo 8) times 32 plus (index modulo 32)"
abbrev pub header_of : ℕ → ℕ → ℕ
header_of sequence index = sequence % 8 * 32 + index % 32

-- "If no byte was sent, byte 1 is the length and up to 6 bytes follow; .. The rest is 0xFF"
abbrev pub first_frame_bytes : ℕ → ℕ → List ℕ → List ℕ
first_frame_bytes sequence index p = header_of sequence index ∷ length p ∷ fill 6 p

-- "else up to 7 follow byte 0. The rest is 0xFF"
abbrev pub later_frame_bytes : ℕ → ℕ → ℕ → List ℕ → List ℕ
later_frame_bytes sequence index sent p = header_of sequence index ∷ fill 7 (drop sent p)

-- "Bytes sent goes up by the bytes taken": up to 6 in a first frame, and up to 7 in a later one
abbrev pub sent_by_first : List ℕ → ℕ
sent_by_first p = min 6 (length p)

abbrev pub sent_by_later : ℕ → List ℕ → ℕ
sent_by_later sent p = sent + min 7 (length p - sent)

-- "The frame index goes up by one and comes round from 255 to 0."
abbrev pub index_after : ℕ → ℕ
index_after index = (index + 1) % 256
