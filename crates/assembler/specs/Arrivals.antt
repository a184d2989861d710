-- A frame that arrived, as the steps hear it: of the old kind with no destination, of the new one by what its identifier says.
use Rattle.std.specs.Prelude.{ℕ, [], Result, Ok, Err, ◌+◌, min, Option, Some, None}
use Rattle.base.specs.Answer.{Answer, gives, refuses}
use Rattle.can_id.specs.declared.CanIdParts.{CanIdParts}
use Rattle.can_id.specs.declared.CanIdReadError.{CanIdReadError}
use Rattle.can_id.specs.Read.{read_number, read_of}
use Rattle.fast_packet.specs.FastPacket.{filled_from}
use Rattle.session.specs.declared.Heard.{Heard}
use Rattle.assembler.specs.declared.Arrival.{Arrival}
use Rattle.assembler.specs.declared.ArrivalById.{ArrivalById}
use Rattle.assembler.specs.declared.WithLength.{WithLength}

-- all eight bytes were sent
unfoldable pub heard_of : Arrival → Heard
heard_of a = record { now_ms = a.now_ms; pgn = a.pgn; source_address = a.source_address; part = 0; «data» = a.«data»; length = 8 }

-- "An added entry takes a length .., keeps the first min(length, 8) bytes, fills the rest with 0xFF, and goes on as above."; document 02's No. 5 asks how many
-- were sent
unfoldable pub cut_to : ℕ → Heard → Heard
cut_to n f = record { now_ms = f.now_ms; pgn = f.pgn; source_address = f.source_address; part = f.part; «data» = filled_from n f.«data»; length = min n 8 }

abbrev pub ArrivalWithLength : Type 0
ArrivalWithLength = WithLength Arrival

unfoldable pub heard_with_length : ArrivalWithLength → Heard
heard_with_length x = cut_to x.length (heard_of x.arrival)

-- ---- document 02, No. 12: "a pool kind that is handed the identifier"

-- "a fourth part: the destination, or none for PF 240 and above"
unfoldable pub part_of : Option ℕ → ℕ
part_of None = 0
part_of (Some d) = d + 1

-- source, PGN and destination are the identifier's; "8 comes first in the new kind"
unfoldable pub heard_from : ArrivalById → Answer CanIdParts → Answer Heard
heard_from a (gives parts) =
    gives (record { now_ms = a.now_ms; pgn = parts.pgn; source_address = parts.source_address; part = part_of parts.destination; «data» = a.«data»; length = 8 })
heard_from a (refuses n carried) = refuses n carried

unfoldable pub heard_by_id : ArrivalById → Answer Heard
heard_by_id a = heard_from a (read_of a.id.0)

-- with a length, as in the old kind
unfoldable pub all_cut_to : ℕ → Answer Heard → Answer Heard
all_cut_to n (gives f) = gives (cut_to n f)
all_cut_to n (refuses k carried) = refuses k carried

abbrev pub ArrivalByIdWithLength : Type 0
ArrivalByIdWithLength = WithLength ArrivalById

unfoldable pub heard_by_id_with_length : ArrivalByIdWithLength → Answer Heard
heard_by_id_with_length x = all_cut_to x.length (heard_by_id x.arrival)

-- ---- what the code has of it: a frame that the steps hear, or 01's number of the refusal
abbrev pub of_heard : Result Heard CanIdReadError → Answer Heard
of_heard (Ok f) = gives f
of_heard (Err e) = refuses (read_number e) []
