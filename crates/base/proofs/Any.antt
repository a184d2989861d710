-- Whether any element passes a test: a loop that reads the whole list. Assumes nothing.
use mathlib.Core.Bool.{Bool, true, false, ◌||◌}
use mathlib.Core.List.{List, [], ◌∷◌, ◌++◌}
use mathlib.Core.Path.{◌≡◌, refl, sym, ap, ◌∙◌}
use Prim.Native.Nat.{ℕ, ◌+◌, ◌<◌}
use native.Mathlib.Numerals.{add-one}
use lib.ListN.{length, get_or, take}
use lib.Seq.{take-suc, take-length}
use Rattle.base.specs.Lists.{any}
use Rattle.base.proofs.Bools.{or_false}

or_assoc : (a b c : Bool) → (a || (b || c)) ≡ ((a || b) || c)
or_assoc true b c = refl
or_assoc false b c = refl

module _ {A : Type 0} (t : A → Bool) where
  any_last : (l : List A) (x : A) → any t (l ++ (x ∷ [])) ≡ (any t l || t x)
  unfolding any
  any_last [] x = or_false (t x)
  any_last (y ∷ l) x = ap (◌||◌ (t y)) (any_last l x) ∙ or_assoc (t y) (any t l) (t x)

  pub any_none : false ≡ any t []
  unfolding any
  any_none = refl

  pub any_turn : (l : List A) (i : ℕ) (d : A) (hit r : Bool) → hit ≡ any t (take i l) → r ≡ (hit || t (get_or l i d)) → i < length l → r ≡ any t (take (i + 1) l)
  any_turn l i d hit r e er h = rw (er, e, add-one i, take-suc l i d h) (sym (any_last (take i l) (get_or l i d)))

  pub any_done : (l : List A) (i : ℕ) (hit : Bool) → hit ≡ any t (take i l) → i ≡ length l → hit ≡ any t l
  any_done l i hit e h = e ∙ rw (h, take-length l)
