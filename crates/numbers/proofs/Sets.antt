-- A row laid into a list from a place on: one element more, what stands there then and elsewhere, and when nothing changes. Assumes nothing.
use Prim.Native.Nat.{ℕ, zero, suc, ◌+◌, ◌<◌, ◌≤◌}
use mathlib.Core.List.{List, [], ◌∷◌, ◌++◌}
use mathlib.Core.Path.{◌≡◌, refl, sym, ap, ◌∙◌}
use lib.ListN.{get_or, set, length, length-set}
use lib.Seq.{sets, set-get_or, get_or-set_same, get_or-set_other}
use native.Mathlib.Nat.{add-zero}
use native.Mathlib.Omega.{arith}

module _ {A : Type 0} where
  pub sets_snoc : (vs l : List A) (i : ℕ) (a : A) → sets l i (vs ++ (a ∷ [])) ≡ set (sets l i vs) (i + length vs) a
  sets_snoc [] l i a = ap (λ (j : ℕ). set l j a) (sym (add-zero i))
  sets_snoc (v ∷ vs) l i a =
      let e : suc i + length vs ≡ i + suc (length vs) = omega arith in
      sets_snoc vs (set l i v) (suc i) a ∙ ap (λ (j : ℕ). set (sets (set l i v) (suc i) vs) j a) e

  pub sets_away : (vs l : List A) (i j : ℕ) (d : A) → ((k : ℕ) → k < length vs → j ≡ i + k → ⊥) → get_or (sets l i vs) j d ≡ get_or l j d
  sets_away [] l i j d f = refl
  sets_away (v ∷ vs) l i j d f =
      sets_away vs (set l i v) (suc i) j d (λ k h e. f (suc k) (omega arith) (omega arith))
      ∙ get_or-set_other l i j v d (λ e. f 0 (omega arith) (omega arith))

  pub sets_at : (vs l : List A) (i k : ℕ) (d : A) → k < length vs → i + length vs ≤ length l → get_or (sets l i vs) (i + k) d ≡ get_or vs k d
  sets_at [] l i k d h m = absurd (omega arith)
  sets_at (v ∷ vs) l i zero d h m =
      sets_away vs (set l i v) (suc i) (i + 0) d (λ k p e. omega arith)
      ∙ ap (λ (j : ℕ). get_or (set l i v) j d) (add-zero i) ∙ get_or-set_same l i v d (omega arith)
  sets_at (v ∷ vs) l i (suc k) d h m =
      let e : i + suc k ≡ suc i + k = omega arith in
      ap (λ (j : ℕ). get_or (sets (set l i v) (suc i) vs) j d) e ∙ sets_at vs (set l i v) (suc i) k d (omega arith) (rw length-set (omega arith))

  pub sets_same : (vs l : List A) (i : ℕ) (d : A) → ((k : ℕ) → k < length vs → get_or vs k d ≡ get_or l (i + k) d) → sets l i vs ≡ l
  sets_same [] l i d f = refl
  sets_same (v ∷ vs) l i d f =
      let e : set l i v ≡ l = ap (set l i) (f 0 (omega arith) ∙ ap (λ (j : ℕ). get_or l j d) (add-zero i)) ∙ set-get_or l i d in
      ap (λ (m : List A). sets m (suc i) vs) e
      ∙ sets_same vs l (suc i) d (λ k h. let s : i + suc k ≡ suc i + k = omega arith in f (suc k) (omega arith) ∙ ap (λ (j : ℕ). get_or l j d) s)
