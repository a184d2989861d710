-- Lists as the definitions speak of them: the first place that passes a test, whether any does, a sum of weights, and a row filled up with 0xFF.
use Rattle.std.specs.Prelude.{Bool, true, false, ◌||◌, List, [], ◌∷◌, ℕ, zero, suc, ◌+◌}
use Rattle.std.proofs.Math.Option.{Option, none, some}

-- a place counted in a list, counted in the list that has one element more in front
unfoldable pub next_place : Option ℕ → Option ℕ
next_place none = none
next_place (some i) = some (suc i)

-- place 0 where the test of the first element passes, else what was found after it
unfoldable pub here : Bool → Option ℕ → Option ℕ
here true r = some 0
here false r = next_place r

-- the first of the two that is a place
unfoldable pub or_else : Option ℕ → Option ℕ → Option ℕ
or_else none b = b
or_else (some i) b = some i

module _ {A : Type 0} where
  -- the first place whose element passes the test
  unfoldable pub first_at : (A → Bool) → List A → Option ℕ
  first_at t [] = none
  first_at t (x ∷ xs) = here (t x) (first_at t xs)

  -- some element passes the test
  unfoldable pub any : (A → Bool) → List A → Bool
  any t [] = false
  any t (x ∷ xs) = t x || any t xs

  -- the weights of a list's elements together
  unfoldable pub total : (A → ℕ) → List A → ℕ
  total w [] = 0
  total w (x ∷ xs) = w x + total w xs

-- n places with these bytes, and 0xFF after them
unfoldable pub fill : ℕ → List ℕ → List ℕ
fill zero bs = []
fill (suc n) [] = 255 ∷ fill n []
fill (suc n) (b ∷ bs) = b ∷ fill n bs
