-- Reading an identifier, as document 02 has it in No. 4: "Refuse to read an identifier of 2^29 or more".
use Rattle.std.specs.Prelude.{ℕ, [], Result, Ok, Err, leb}
use Rattle.base.specs.Answer.{Answer, gives, refuses}
use Rattle.base.specs.Pick.{pick}
use Rattle.can_id.specs.Layout.{priority_of, pgn_of, destination_of, source_of}
use Rattle.can_id.specs.declared.CanIdParts.{CanIdParts}
use Rattle.can_id.specs.declared.CanIdReadError.{CanIdReadError}
use Rattle.can_id.specs.declared.CanIdReadError.TheVariants.{TooWide}

-- ---- this paper's number for each answer; "8 too wide" carries nothing
abbrev pub read_number : CanIdReadError → ℕ
read_number TooWide = 8

abbrev pub of_read : Result CanIdParts CanIdReadError → Answer CanIdParts
of_read (Ok parts) = gives parts
of_read (Err e) = refuses (read_number e) []

-- what an identifier says: document 01's fields
abbrev pub parts_of : ℕ → CanIdParts
parts_of id = record { priority = priority_of id; pgn = pgn_of id; source_address = source_of id; destination = destination_of id }

-- "Refuse to read an identifier of 2^29 or more"
unfoldable pub read_of : ℕ → Answer CanIdParts
read_of id = pick (leb 0x2000_0000 id) (refuses 8 []) (gives (parts_of id))
