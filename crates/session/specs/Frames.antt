-- What a heard frame says.
use Rattle.std.specs.Prelude.{Bool, ◌||◌, List, ℕ, ◌+◌, ◌/◌, ◌%◌, min, eqb, ltb, get_or, take, drop}
use Rattle.fast_packet.specs.FastPacket.{max_payload}
use Rattle.session.specs.declared.Heard.{Heard}
use Rattle.session.specs.Rules.{Key}

-- "sequence is the top 3" bits of byte 0
unfoldable pub sequence_of : Heard → ℕ
sequence_of f = get_or f.«data» 0 0 / 32

-- "low 5 bits of byte 0"
unfoldable pub index_of : Heard → ℕ
index_of f = get_or f.«data» 0 0 % 32

-- of a first frame: "Size is byte 1", and up to six bytes of the message follow it
unfoldable pub size_of : Heard → ℕ
size_of f = get_or f.«data» 1 0

unfoldable pub first_bytes : Heard → List ℕ
first_bytes f = drop 2 f.«data»

-- of a continuation: up to seven bytes of the message follow byte 0
unfoldable pub next_bytes : Heard → List ℕ
next_bytes f = drop 1 f.«data»

-- "0 or over 223"
unfoldable pub bad_size : Heard → Bool
bad_size f = eqb (size_of f) 0 || ltb max_payload (size_of f)

unfoldable pub key_of : Heard → Key
key_of f = record { source = f.source_address; pgn = f.pgn; sequence = sequence_of f; part = f.part }

-- ---- document 02, No. 5: a frame cut short

-- of its eight bytes the first `length` were sent
unfoldable pub sent_bytes : Heard → List ℕ
sent_bytes f = take f.length f.«data»

-- "a listed frame of length 0": neither index nor sequence was sent
unfoldable pub is_empty : Heard → Bool
is_empty f = eqb f.length 0

-- its size was not sent, "a first frame of length 1", or a byte of the message that it announces, "a length below 2 + min(6, n)"
unfoldable pub cut_first : Heard → Bool
cut_first f = ltb f.length (2 + min 6 (size_of f))

-- a first frame that is Rejected
unfoldable pub bad_first : Heard → Bool
bad_first f = bad_size f || cut_first f
