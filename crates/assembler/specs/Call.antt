-- One call: the PGN list lent, and the frame heard.
use Rattle.std.specs.Prelude.{Bool, List, ◌≡◌, ℕ, ◌<◌, length, get_or}
use Rattle.fast_packet.specs.FastPacket.{listed_in}
use Rattle.session.specs.declared.Heard.{Heard}
use Rattle.session.specs.Rules.{Rules}

pub record Call : Type 0 where
  pub pgns : List ℕ
  pub heard : Heard

-- what every `[u8; 8]` is: eight numbers, and the first below 256
pub record EightBytes (bytes : List ℕ) : Type 0 where
  pub eight : length bytes ≡ 8
  pub byte : get_or bytes 0 0 < 256

abbrev pub CallOk : Call → Type 0
CallOk c = EightBytes c.heard.«data»

abbrev pub listed : Call → Bool
listed c = listed_in c.heard.pgn c.pgns

-- the part of its key is one that its PGN allows: so is every frame's that comes by a pool's own entry (proofs/Entries)
abbrev pub part_fits : Rules → Call → Bool
part_fits R c = R.allowed c.heard.pgn c.heard.part
