-- Sums of weights over a list, after a store and at single places. Assumes nothing.
use mathlib.Core.List.{List, [], ◌∷◌}
use mathlib.Core.Path.{◌≡◌, refl, ap}
use Prim.Native.Nat.{ℕ, zero, suc, ◌+◌, ◌≤◌, ◌<◌}
use native.Mathlib.Nat.{not-suc-le-zero, le_of_suc-le-suc}
use native.Mathlib.Omega.{arith}
use lib.ListN.{length, get_or, set}
use Rattle.base.specs.Lists.{total}

module _ {A : Type 0} where
  -- the weights after a store
  pub total_set : (w : A → ℕ) (l : List A) (i : ℕ) (a d : A) → i < length l → total w (set l i a) + w (get_or l i d) ≡ total w l + w a
  unfolding total
  total_set w [] i a d h = absurd (not-suc-le-zero h)
  total_set w (x ∷ xs) zero a d h = omega arith
  total_set w (x ∷ xs) (suc i) a d h = omega (arith, total_set w xs i a d (le_of_suc-le-suc h))

  total_one : (w : A → ℕ) (l : List A) (j : ℕ) (d : A) → j < length l → w (get_or l j d) ≤ total w l
  unfolding total
  total_one w [] j d h = absurd (not-suc-le-zero h)
  total_one w (x ∷ xs) zero d h = omega arith
  total_one w (x ∷ xs) (suc j) d h = omega (arith, total_one w xs j d (le_of_suc-le-suc h))

  -- two places weigh no more than all
  pub total_two : (w : A → ℕ) (l : List A) (i j : ℕ) (d : A) → i < length l → j < length l → (i ≡ j → ⊥) → w (get_or l i d) + w (get_or l j d) ≤ total w l
  unfolding total
  total_two w [] i j d h g q = absurd (not-suc-le-zero h)
  total_two w (x ∷ xs) zero zero d h g q = absurd (q refl)
  total_two w (x ∷ xs) zero (suc j) d h g q = omega (arith, total_one w xs j d (le_of_suc-le-suc g))
  total_two w (x ∷ xs) (suc i) zero d h g q = omega (arith, total_one w xs i d (le_of_suc-le-suc h))
  total_two w (x ∷ xs) (suc i) (suc j) d h g q = omega (arith, total_two w xs i j d (le_of_suc-le-suc h) (le_of_suc-le-suc g) (λ e. q (ap suc e)))
