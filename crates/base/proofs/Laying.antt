-- Laws of numbers laid end to end in a list. Assumes nothing.
use Prim.Native.Nat.{ℕ, suc, ◌+◌, ◌<◌, ◌≤◌}
use mathlib.Core.List.{List, [], ◌∷◌, ◌++◌}
use mathlib.Core.Path.{◌≡◌, refl, sym, ap, ◌∙◌}
use native.Mathlib.Nat.{add-zero, add-suc, suc-add}
use native.Mathlib.Numerals.{add-one}
use native.Mathlib.Omega.{arith}
use lib.ListN.{length, get_or, take, set, length-take}
use lib.Seq.{sets, take-suc, take_all}

-- one run of stores after another
pub sets_append : (p q l : List ℕ) (a : ℕ) → sets l a (p ++ q) ≡ sets (sets l a p) (a + length p) q
sets_append [] q l a = ap (λ (k : ℕ). sets l k q) (sym (add-zero a))
sets_append (x ∷ p) q l a = sets_append p q (set l a x) (suc a) ∙ ap (λ (k : ℕ). sets (sets (set l a x) (suc a) p) k q) (suc-add a (length p) ∙ sym (add-suc a (length p)))

-- a loop that lays the numbers of `vs` from a place on: the first i are laid after i turns
module _ (o : List ℕ) (at : ℕ) (vs : List ℕ) where
  unfoldable pub laid : ℕ → List ℕ
  laid i = sets o at (take i vs)

  pub lay_none : o ≡ laid 0
  unfolding laid
  lay_none = refl

  pub lay_turn : (i : ℕ) (l : List ℕ) → i < length vs → l ≡ laid i → set l (at + i) (get_or vs i 0) ≡ laid (i + 1)
  unfolding laid
  lay_turn i l h e =
      let z : length (take i vs) ≡ i = rw length-take (omega arith) in
      ap (λ (q : List ℕ). set q (at + i) (get_or vs i 0)) e
      ∙ sym (rw (add-one i, take-suc vs i 0 h, sets_append (take i vs) (get_or vs i 0 ∷ []) o at, z))

  pub lay_done : (i : ℕ) (l : List ℕ) → length vs ≤ i → l ≡ laid i → l ≡ sets o at vs
  unfolding laid
  lay_done i l h e = e ∙ ap (sets o at) (take_all i vs h)

pub ruleset laying = (lay_none, lay_turn, lay_done)
