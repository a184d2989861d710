-- The runs on which wrong assemblers are caught, and what is read off the answers.
-- Assumes nothing.
use mathlib.Core.List.{List, [], ◌∷◌}
use mathlib.Core.Bool.{true}
use mathlib.Core.Path.{◌≡◌, refl}
use Prim.Native.Nat.{ℕ, ◌<◌}
use lib.ListN.{get_or}
use lib.Dec.{lit<}
use Rattle.session.specs.Rules.{part_allowed, rules_by, base}
use Rattle.assembler.specs.Call.{Call, CallOk, part_fits}
use Rattle.ledger.specs.Ledger.{Saying}
use Rattle.ledger.specs.Assemblers.{AllOk, none, more}
use Rattle.ledger.proofs.EveryFate.{frame, announces, goes_on}

announces_ok : (n now from : ℕ) → CallOk (announces n now from)
unfolding announces frame
announces_ok n now from = record { eight = refl; byte = lit< tt }

goes_on_ok : (k now from : ℕ) → k < 256 → CallOk (goes_on k now from)
unfolding goes_on frame
goes_on_ok k now from h = record { eight = refl; byte = h }

announces_fits : (n now from : ℕ) → part_fits base (announces n now from) ≡ true
unfolding base rules_by part_allowed announces frame
announces_fits n now from = refl

goes_on_fits : (k now from : ℕ) → part_fits base (goes_on k now from) ≡ true
unfolding base rules_by part_allowed goes_on frame
goes_on_fits k now from = refl

-- a message of 7 bytes, and its continuation: in turn, out of turn, late
unfoldable pub pair : ℕ → ℕ → List Call
pair k now = announces 7 0 35 ∷ goes_on k now 35 ∷ []

pub pair_ok : (k now : ℕ) → k < 256 → AllOk base (pair k now)
unfolding pair
pair_ok k now h = more (announces_ok 7 0 35) (announces_fits 7 0 35) (more (goes_on_ok k now 35 h) (goes_on_fits k now 35) none)

-- two such messages
unfoldable pub twice : List Call
twice = announces 7 0 35 ∷ goes_on 1 1 35 ∷ announces 7 2 35 ∷ goes_on 1 3 35 ∷ []

pub twice_ok : AllOk base twice
unfolding twice
twice_ok = more (announces_ok 7 0 35) (announces_fits 7 0 35) (more (goes_on_ok 1 1 35 (lit< tt)) (goes_on_fits 1 1 35) (more (announces_ok 7 2 35) (announces_fits 7 2 35) (more (goes_on_ok 1 3 35 (lit< tt)) (goes_on_fits 1 3 35) none)))

-- a message of 7 bytes, and a first frame of its key that announces n
unfoldable pub firsts : ℕ → List Call
firsts n = announces 7 0 35 ∷ announces n 1 35 ∷ []

pub firsts_ok : (n : ℕ) → AllOk base (firsts n)
unfolding firsts
firsts_ok n = more (announces_ok 7 0 35) (announces_fits 7 0 35) (more (announces_ok n 1 35) (announces_fits n 1 35) none)

-- the length of the latest answer, and byte i of its payload
unfoldable pub last_length : List Saying → ℕ
last_length [] = 0
last_length (a ∷ older) = a.length

unfoldable pub last_byte : ℕ → List Saying → ℕ
last_byte i [] = 0
last_byte i (a ∷ older) = get_or a.payload i 0
