-- What an identifier says, as document 01 has it under "Identifiers". Where one is too wide, no frame's answer rests on these: 29 comes first.
use Rattle.std.specs.Prelude.{ℕ, ◌*◌, ◌/◌, ◌%◌, Bool, true, false, eqb, ltb}
use Rattle.base.specs.Pick.{pick}

-- whose frame it is. "Bits from the top of 29: priority 3, reserved 1, data page 1, PF 8, PS 8, source 8."
abbrev pub bench_source : ℕ → ℕ
bench_source id = id % 0x100

-- "With PF below 240, the PGN's low byte is 0 ..; with PF 240 or more, PS is the PGN's low byte"
unfoldable pub bench_pgn : ℕ → ℕ
bench_pgn id = pick (ltb (id / 0x1_0000 % 0x100) 240) (id / 0x1_0000 % 0x400 * 0x100) (id / 0x100 % 0x4_0000)

-- "Frames of another source or PGN"
unfoldable pub is_other : ℕ → ℕ → ℕ → Bool
is_other source pgn id = pick (eqb (bench_source id) source) (pick (eqb (bench_pgn id) pgn) false true) true
