-- What both ends of a Fast Packet share: the largest message, the PGN list, and a frame cut short.
use Rattle.std.specs.Prelude.{Bool, List, ℕ, min, eqb, take}
use Rattle.base.specs.Lists.{any, fill}

-- "the limit 223"
abbrev pub max_payload : ℕ
max_payload = 223

-- "A PGN is listed exactly when it stands anywhere in that list; empty, repeated and unsorted lists are allowed."
unfoldable pub listed_in : ℕ → List ℕ → Bool
listed_in pgn pgns = any (eqb pgn) pgns

-- "keeps the first min(length, 8) bytes, fills the rest with 0xFF"
unfoldable pub filled_from : ℕ → List ℕ → List ℕ
filled_from len bytes = fill 8 (take (min len 8) bytes)
