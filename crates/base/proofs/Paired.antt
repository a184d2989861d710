-- Two lists whose elements agree pair by pair: what holds of the one holds of the other. Assumes nothing.
use mathlib.Core.Bool.{Bool, false}
use mathlib.Core.List.{List, [], ◌∷◌}
use mathlib.Core.Path.{◌≡◌, refl, ap}
use Prim.Native.Nat.{ℕ, zero, suc, ◌<◌}
use native.Mathlib.Nat.{not-suc-le-zero, le_of_suc-le-suc}
use lib.ListN.{length, get_or, set, replicate}
use Rattle.base.specs.Lists.{first_at, any, total}

module _ {A B : Type 0} where
  pub data All2 (R : A → B → Type 0) : List A → List B → Type 0 where
    nil : All2 R [] []
    cons : {a : A} {b : B} {xs : List A} {ys : List B} → R a b → All2 R xs ys → All2 R (a ∷ xs) (b ∷ ys)

  pub all2_length : {R : A → B → Type 0} {xs : List A} {ys : List B} → All2 R xs ys → length xs ≡ length ys
  all2_length nil = refl
  all2_length (cons r rs) = ap suc (all2_length rs)

  pub all2_replicate : (R : A → B → Type 0) (a : A) (b : B) → R a b → (n : ℕ) → All2 R (replicate n a) (replicate n b)
  all2_replicate R a b r zero = nil
  all2_replicate R a b r (suc n) = cons r (all2_replicate R a b r n)

  -- tests that agree on a pair find the same place
  pub all2_first : {R : A → B → Type 0} (t : A → Bool) (u : B → Bool) → ((a : A) (b : B) → R a b → t a ≡ u b) → {xs : List A} {ys : List B} → All2 R xs ys → first_at t xs ≡ first_at u ys
  unfolding first_at
  all2_first t u same nil = refl
  all2_first t u same (cons {a} {b} r rs) = cc (same a b r, all2_first t u same rs)

  pub all2_any : {R : A → B → Type 0} (u : B → Bool) → ((a : A) (b : B) → R a b → u b ≡ false) → {xs : List A} {ys : List B} → All2 R xs ys → any u ys ≡ false
  unfolding any
  all2_any u never nil = refl
  all2_any u never (cons {a} {b} r rs) = rw (never a b r) (all2_any u never rs)

  pub all2_total : {R : A → B → Type 0} (t : A → ℕ) (u : B → ℕ) → ((a : A) (b : B) → R a b → t a ≡ u b) → {xs : List A} {ys : List B} → All2 R xs ys → total t xs ≡ total u ys
  unfolding total
  all2_total t u same nil = refl
  all2_total t u same (cons {a} {b} r rs) = cc (same a b r, all2_total t u same rs)

  pub all2_at : {R : A → B → Type 0} {xs : List A} {ys : List B} → All2 R xs ys → (i : ℕ) → i < length xs → (d : A) (e : B) → R (get_or xs i d) (get_or ys i e)
  all2_at nil i h d e = absurd (not-suc-le-zero h)
  all2_at (cons r rs) zero h d e = r
  all2_at (cons r rs) (suc i) h d e = all2_at rs i (le_of_suc-le-suc h) d e

  pub all2_set : {R : A → B → Type 0} {xs : List A} {ys : List B} → All2 R xs ys → (i : ℕ) {a : A} {b : B} → R a b → All2 R (set xs i a) (set ys i b)
  all2_set nil i r = nil
  all2_set (cons q qs) zero r = cons r qs
  all2_set (cons q qs) (suc i) r = cons q (all2_set qs i r)
