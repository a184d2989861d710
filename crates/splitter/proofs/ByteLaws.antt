-- Laws of the bytes of one frame, in the shape of the code's tests. Assumes nothing.
use Rattle.std.proofs.Common.{◌≡◌, ℕ, zero, suc, ◌+◌, ◌-◌, ◌*◌, ◌%◌, ◌<◌, List, [], ◌∷◌, ◌++◌, length, drop, set, replicate, sym, refl, ap, ◌∙◌, arith, min, take}
use Rattle.std.specs.List.{between}
use Rattle.std.proofs.lemmas.Slice.{between_from_start, between_to_end}
use Rattle.std.proofs.lemmas.List.{append-nil}
use lib.Seq.{sets}
use Rattle.base.specs.Lists.{fill}
use Rattle.base.proofs.Cases.{when_eq, when_ne}
use Rattle.splitter.specs.Bytes.{split_bytes}

-- ---- bytes laid into a place that is filled with 0xFF
sets_past : (x : ℕ) (l vs : List ℕ) (k : ℕ) → sets (x ∷ l) (suc k) vs ≡ x ∷ sets l k vs
sets_past x l [] k = refl
sets_past x l (v ∷ vs) k = sets_past x (set l k v) vs (suc k)

sets_none : (vs : List ℕ) (k : ℕ) → sets [] k vs ≡ []
sets_none [] k = refl
sets_none (v ∷ vs) k = sets_none vs (suc k)

pub filled : (n : ℕ) (vs : List ℕ) → sets (replicate n 255) 0 vs ≡ fill n vs
unfolding fill
filled zero vs = sets_none vs 0
filled (suc n) [] = ap (λ (l : List ℕ). 255 ∷ l) (filled n [])
filled (suc n) (v ∷ vs) = sets_past v (replicate n 255) vs 0 ∙ ap (λ (l : List ℕ). v ∷ l) (filled n vs)

laid_over : (l vs : List ℕ) (n : ℕ) → n ≡ min (length l) (length vs) → take n vs ++ drop n l ≡ sets l 0 vs
laid_over [] vs n e = let z : n ≡ 0 = omega arith in rw z (sym (sets_none vs 0))
laid_over (x ∷ l) [] n e = let z : n ≡ 0 = omega arith in rw z refl
laid_over (x ∷ l) (v ∷ vs) zero e = absurd (omega arith)
laid_over (x ∷ l) (v ∷ vs) (suc n) e = ap (λ (q : List ℕ). v ∷ q) (laid_over l vs n (omega arith)) ∙ sym (sets_past v l vs 0)

pub put_laid : (l vs : List ℕ) (n : ℕ) {x : List ℕ} → n ≡ min (length l) (length vs) → x ≡ between 0 n vs → x ++ drop n l ≡ sets l 0 vs
put_laid l vs n e ex = ap (λ (q : List ℕ). q ++ drop n l) (ex ∙ between_from_start vs n) ∙ laid_over l vs n e

-- ---- the bytes of a frame, from what follows its header
module _ (sequence : ℕ) (p : List ℕ) (index : ℕ) where
  abbrev header : ℕ
  header = sequence % 8 * 32 + index % 32

  pub bytes_first : {l : List ℕ} → index ≡ 0 → l ≡ sets (replicate 6 255) 0 (between 0 (length p) p) → header ∷ length p ∷ (l ++ []) ≡ split_bytes sequence p index
  unfolding split_bytes
  bytes_first {l} i e =
      ap (λ (x : List ℕ). header ∷ length p ∷ x)
      (append-nil l ∙ e ∙ ap (sets (replicate 6 255) 0) (between_to_end p 0 (length p) (omega arith)) ∙ filled 6 p)
      ∙ ap (λ (x : List ℕ). header ∷ x) (when_eq _ _ i refl)

  pub bytes_later : {l : List ℕ} {k : ℕ} → 0 < index → k ≡ index → l ≡ sets (replicate 7 255) 0 (between (7 * k - 1) (length p) p) → header ∷ (l ++ []) ≡ split_bytes sequence p index
  unfolding split_bytes
  bytes_later {l} {k} i ek e =
      let later : index ≡ 0 → ⊥ = λ y. omega arith in
      ap (λ (x : List ℕ). header ∷ x)
      (append-nil l ∙ e ∙ ap (λ (n : ℕ). sets (replicate 7 255) 0 (between (7 * n - 1) (length p) p)) ek ∙ ap (sets (replicate 7 255) 0) (between_to_end p (7 * index - 1) (length p) (omega arith)) ∙ filled 7 (drop (7 * index - 1) p)
      ∙ when_ne _ _ later refl)
