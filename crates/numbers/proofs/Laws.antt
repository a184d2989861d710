-- Numbers for what C does not have: a flag, and an address that may be missing. Assumes nothing.
use Prim.Native.Nat.{ℕ, ◌<◌}
use mathlib.Core.Bool.{Bool, true, false}
use mathlib.Core.Path.{◌≡◌, refl, ap, ◌∙◌}
use Rattle.std.proofs.Common.{Option, Some, Result, Ok, Err, arith}
use Rattle.std.specs.Int.{from_bool}
use Rattle.std.specs.Result.{OkIff, result_ok}
use Rattle.base.specs.Pick.{pick}
use Rattle.base.proofs.Cases.{when_lt, when_ge}
use Rattle.numbers.specs.Numbers.{to_address}

-- ---- a flag as a number, and over a number
pub flag_is : (x : Bool) {n : ℕ} → n ≡ from_bool x → n ≡ pick x 1 0
unfolding pick
flag_is true h = h
flag_is false h = h

-- ---- an address, or none from 256 on
pub address_is : (n : ℕ) {E : Type 0} (r : Result ℕ E) {d : Option ℕ} → OkIff r (n < 256) n → d ≡ result_ok r → d ≡ to_address n
unfolding to_address
address_is n (Ok x) h e = e ∙ when_lt _ _ h.0 (ap Some h.1)
address_is n (Err x) h e = e ∙ when_ge _ _ (omega (arith, h)) refl
