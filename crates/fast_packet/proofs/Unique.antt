-- Each promise of `fast_packet` determines its answer: two that satisfy it are equal. Assumes nothing.
use Prim.Native.Nat.{ℕ}
use mathlib.Core.Bool.{Bool}
use mathlib.Core.List.{List}
use mathlib.Core.Path.{◌≡◌}
use Rattle.base.proofs.Cases.{determined}
use Rattle.fast_packet.specs.FastPacket.{listed_in, filled_from}

pub is_listed_unique : (pgns : List ℕ) (pgn : ℕ) (r s : Bool) → r ≡ listed_in pgn pgns → s ≡ listed_in pgn pgns → r ≡ s
is_listed_unique pgns pgn r s = determined

pub fill_short_unique : (bytes : List ℕ) (len : ℕ) (r s : List ℕ) → r ≡ filled_from len bytes → s ≡ filled_from len bytes → r ≡ s
fill_short_unique bytes len r s = determined
