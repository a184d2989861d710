-- What an answer that gives says of the tests before it. Assumes nothing.
use Prim.Native.Nat.{ℕ}
use mathlib.Core.Bool.{Bool, true, false}
use mathlib.Core.List.{List, []}
use mathlib.Core.Path.{◌≡◌, refl}
use native.Mathlib.Omega.{arith}
use Rattle.base.specs.Answer.{Answer, gives, refuses}
use Rattle.base.specs.Pick.{pick}

-- it is no refusal
pub never : {A B : Type 0} {x : Answer B} {b : B} {n : ℕ} {l : List ℕ} → refuses n l ≡ x → x ≡ gives b → A
never p q = let z : ◌≡◌ {A = ℕ} 0 1 = cc in absurd (omega arith)

-- so a test whose answer is a refusal was not met
pub unmet : {A : Type 0} (t : Bool) (n : ℕ) (rest : Answer A) {a : A} → pick t (refuses n []) rest ≡ gives a → (t ≡ false) × (rest ≡ gives a)
unfolding pick
unmet true n rest e = never refl e
unmet false n rest e = (refl, e)
