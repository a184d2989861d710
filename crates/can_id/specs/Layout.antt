-- The 29-bit identifier of SAE J1939-21. "Bits from the top of 29: priority 3, reserved 1, data page 1, PF 8, PS 8, source 8."
use Rattle.std.specs.Prelude.{ℕ, ◌+◌, ◌*◌, ◌/◌, ◌%◌, Option, Some, None, ltb}
use Rattle.base.specs.Pick.{pick}

-- ---- the fields of any number; which numbers are read at all is said in Read.antt
abbrev pub priority_of : ℕ → ℕ
priority_of id = id / 0x400_0000 % 8

abbrev pub reserved_of : ℕ → ℕ
reserved_of id = id / 0x200_0000 % 2

abbrev pub data_page_of : ℕ → ℕ
data_page_of id = id / 0x100_0000 % 2

abbrev pub pf_of : ℕ → ℕ
pf_of id = id / 0x1_0000 % 256

abbrev pub ps_of : ℕ → ℕ
ps_of id = id / 256 % 256

abbrev pub source_of : ℕ → ℕ
source_of id = id % 256

-- the identifier of six fields
abbrev pub id_of : ℕ → ℕ → ℕ → ℕ → ℕ → ℕ → ℕ
id_of priority reserved page pf ps source =
    priority * 0x400_0000 + reserved * 0x200_0000 + page * 0x100_0000 + pf * 0x1_0000 + ps * 256 + source

-- the PF that a PGN has
abbrev pub pgn_pf : ℕ → ℕ
pgn_pf pgn = pgn / 256 % 256

-- the PGN of reserved bit, data page, PF and low byte
abbrev pub pgn_from : ℕ → ℕ → ℕ → ℕ → ℕ
pgn_from reserved page pf low = reserved * 0x2_0000 + page * 0x1_0000 + pf * 256 + low

-- "With PF below 240, the PGN's low byte is 0 and PS is the destination; with PF 240 or more, PS is the PGN's low byte and no destination exists."
unfoldable pub pgn_of : ℕ → ℕ
pgn_of id = pgn_from (reserved_of id) (data_page_of id) (pf_of id) (pick (ltb (pf_of id) 240) 0 (ps_of id))

unfoldable pub destination_of : ℕ → Option ℕ
destination_of id = pick (ltb (pf_of id) 240) (Some (ps_of id)) None
