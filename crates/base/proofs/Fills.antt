-- Laws of a row filled up with 0xFF, and of an element by its default. Assumes nothing.
use Prim.Native.Nat.{ℕ, zero, suc, ◌+◌, ◌-◌, ◌<◌, ◌≤◌, max}
use mathlib.Core.List.{List, [], ◌∷◌, ◌++◌, append-nil}
use mathlib.Core.Path.{◌≡◌, refl, sym, ap, ◌∙◌}
use native.Mathlib.Nat.{not-suc-le-zero, le_of_suc-le-suc}
use native.Mathlib.Omega.{arith}
use lib.ListN.{length, get_or, take, set, get_or-eq_default, drop_of_length-le}
use lib.Seq.{take_all, paste, paste-zero, paste-suc}
use Rattle.base.specs.Lists.{fill}

-- within a list the default does not matter
pub get_or_in : (l : List ℕ) (i d e : ℕ) → i < length l → get_or l i d ≡ get_or l i e
get_or_in [] i d e h = absurd (not-suc-le-zero h)
get_or_in (x ∷ l) zero d e h = refl
get_or_in (x ∷ l) (suc i) d e h = get_or_in l i d e (le_of_suc-le-suc h)

pub length_fill : (n : ℕ) (l : List ℕ) → length (fill n l) ≡ n
unfolding fill
length_fill zero l = refl
length_fill (suc n) [] = ap suc (length_fill n [])
length_fill (suc n) (x ∷ l) = ap suc (length_fill n l)

pub get_or_fill : (n : ℕ) (l : List ℕ) (j d : ℕ) → j < n → get_or (fill n l) j d ≡ get_or l j 255
unfolding fill
get_or_fill zero l j d h = absurd (not-suc-le-zero h)
get_or_fill (suc n) [] zero d h = refl
get_or_fill (suc n) [] (suc j) d h = get_or_fill n [] j d (le_of_suc-le-suc h)
get_or_fill (suc n) (x ∷ l) zero d h = refl
get_or_fill (suc n) (x ∷ l) (suc j) d h = get_or_fill n l j d (le_of_suc-le-suc h)

-- the filling is past what the list has
pub take_fill : (m n : ℕ) (l : List ℕ) → m ≤ n → m ≤ length l → take m (fill n l) ≡ take m l
unfolding fill
take_fill zero n l h k = refl
take_fill (suc m) zero l h k = absurd (not-suc-le-zero h)
take_fill (suc m) (suc n) [] h k = absurd (not-suc-le-zero k)
take_fill (suc m) (suc n) (x ∷ l) h k = ap (λ (t : List ℕ). x ∷ t) (take_fill m n l (le_of_suc-le-suc h) (le_of_suc-le-suc k))

-- ---- the byte i places after a start, by a code's two tests; 0xFF past the end
module _ (l : List ℕ) (from i : ℕ) where
  pub byte_before : length l ≤ from → 255 ≡ get_or l (from + i) 255
  byte_before h = sym (get_or-eq_default l 255 (omega arith))

  pub byte_past : from < length l → length l - from ≤ i → 255 ≡ get_or l (from + i) 255
  byte_past k h = sym (get_or-eq_default l 255 (omega arith))

  pub byte_within : from < length l → i < length l - from → get_or l (from + i) 0 ≡ get_or l (from + i) 255
  byte_within k h = get_or_in l (from + i) 0 255 (omega arith)

pub ruleset byte = (byte_before, byte_past, byte_within)

-- ---- a loop that writes a filled list into the eight bytes `d` from `at` on: `out` after the turns up to k
module _ (d : List ℕ) (at : ℕ) (s : List ℕ) where
  abbrev pub pasted : ℕ → List ℕ
  pasted k = paste d at (fill (8 - at) s) (k - at)

  pub fill_none : d ≡ pasted at
  fill_none = let e : at - at ≡ 0 = omega arith in rw e (paste-zero d at (fill (8 - at) s))

  pub fill_turn : (k x : ℕ) (out : List ℕ) → length d ≡ 8 → at ≤ k → k < 8 → out ≡ pasted k → x ≡ get_or s (k - at) 255 → set out k x ≡ pasted (k + 1)
  fill_turn k x out l h m e g =
      let f : List ℕ = fill (8 - at) s in
      let a : at + (k - at) ≡ k = omega arith in
      let b : k + 1 - at ≡ suc (k - at) = omega arith in
      let y : x ≡ get_or f (k - at) 0 = g ∙ sym (get_or_fill (8 - at) s (k - at) 0 (omega arith)) in
      rw (b, e, y)
      (ap (λ (i : ℕ). set (pasted k) i (get_or f (k - at) 0)) (sym a)
      ∙ paste-suc d at f (k - at) 0 (omega arith) (rw length_fill (omega arith)))

  pub fill_done : (k : ℕ) (out : List ℕ) → length d ≡ 8 → at ≤ k → 8 ≤ k → k ≤ max 8 at → out ≡ pasted k → out ≡ take at d ++ fill (8 - at) s
  fill_done k out l h m n e =
      let f : List ℕ = fill (8 - at) s in
      e
      ∙ rw (take_all (k - at) f (rw length_fill (omega arith)), drop_of_length-le d {i = at + (k - at)} (omega arith))
      (append-nil (take at d ++ f))

pub ruleset filling = (fill_none, fill_turn, fill_done)
