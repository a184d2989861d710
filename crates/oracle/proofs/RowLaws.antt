-- Laws of rows: a frame that is read from separate slices, and a loop along a row. Assumes nothing.
use Prim.Native.Nat.{ℕ, zero, suc, ◌+◌, ◌*◌, ◌<◌, ◌≤◌}
use mathlib.Core.List.{List, [], ◌∷◌}
use mathlib.Core.Path.{◌≡◌, refl, sym, ap, ◌∙◌}
use native.Mathlib.Nat.{add-zero}
use native.Mathlib.Omega.{arith}
use lib.ListN.{length, get_or, drop}
use lib.Seq.{get_or-drop, sets}
use Rattle.std.proofs.lemmas.List.{at_drop_more}
use Rattle.splitter.specs.Frames.{eight, count_in}
use Rattle.oracle.specs.Rows.{no_frame, frame_in, frames_in, row_in}
use Rattle.oracle.specs.inner.Scan.{scan_frame, scan_of, added_of, row_of, bytes_laid, rows_laid, Counted}
use Rattle.oracle.specs.inner.Tx.{tx_of, tx_all}
use Rattle.splitter.specs.declared.Frame.{Frame}
use Rattle.oracle.specs.declared.Scan.{Scan}
use Rattle.oracle.specs.declared.Tx.{Tx}
use Rattle.oracle.proofs.Grows.{counts, arena_more, list_more}
use Rattle.oracle.proofs.CheckLaws.{kept_count}

-- ---- a frame that is read from separate slices
-- eight bytes, one by one
pub eight_read : (bytes : List ℕ) (at : ℕ)
    → get_or bytes at 0 ∷ get_or bytes (at + 1) 0 ∷ get_or bytes (at + 2) 0 ∷ get_or bytes (at + 3) 0 ∷ get_or bytes (at + 4) 0 ∷ get_or bytes (at + 5) 0 ∷ get_or bytes (at + 6) 0 ∷ get_or bytes (at + 7) 0 ∷ [] ≡ eight (drop at bytes)
unfolding eight
eight_read bytes at = simp (get_or-drop, add-zero)

module _ (ids bytes lens : List ℕ) where
  long_from : (k n : ℕ) → length (frames_in ids bytes lens k n) ≡ n
  long_from k zero = refl
  long_from k (suc n) = ap suc (long_from (k + 1) n)

  pub row_long : length (row_in ids bytes lens) ≡ count_in (length ids) (length bytes) (length lens)
  unfolding row_in
  row_long = long_from 0 (count_in (length ids) (length bytes) (length lens))

  frame_from : (k n i : ℕ) (d : Frame) → i < n → get_or (frames_in ids bytes lens k n) i d ≡ frame_in ids bytes lens (k + i)
  frame_from k zero i d h = absurd (omega arith)
  frame_from k (suc n) zero d h = let e : k ≡ k + 0 = omega arith in ap (frame_in ids bytes lens) e
  frame_from k (suc n) (suc i) d h = let e : k + 1 + i ≡ k + suc i = omega arith in frame_from (k + 1) n i d (omega arith) ∙ ap (frame_in ids bytes lens) e

  module _ (i : ℕ) (h : i < length (row_in ids bytes lens)) where
    within : i < count_in (length ids) (length bytes) (length lens)
    within = omega (arith, row_long)

    pub row_has : (i < length ids) × (8 * i + 8 ≤ length bytes) × (i < length lens)
    row_has = (omega (arith, within), omega (arith, within), omega (arith, within))

    pub frame_read : (bs : List ℕ) (d : Frame) → bs ≡ eight (drop (8 * i) bytes) → record { id = get_or ids i 0; «data» = bs; len = get_or lens i 0 } ≡ get_or (row_in ids bytes lens) i d
    unfolding row_in frame_in
    frame_read bs d e =
        ap (λ (l : List ℕ). record { id = get_or ids i 0; «data» = l; len = get_or lens i 0 }) e
        ∙ let z : i ≡ 0 + i = omega arith in ap (frame_in ids bytes lens) z
        ∙ sym (frame_from 0 (count_in (length ids) (length bytes) (length lens)) i d within)

-- what a fold leaves of the arena and of the list
abbrev pub arena_left : Scan → List ℕ → List Frame → List ℕ
arena_left s o fs = sets o s.total (bytes_laid s fs)

abbrev pub list_left : Scan → List ℕ → List Frame → List ℕ
list_left s o fs = sets o (3 * s.messages) (rows_laid s fs)

pub counts_on : (i : ℕ) (s : Scan) {t : Scan} (f : Frame) → Counted i s → t ≡ scan_frame s f → Counted (i + 1) t
counts_on i s f c e = rw e (counts i s f c)

pub counts_tx : (i : ℕ) (s : Tx) {t : Tx} (f : Frame) → Counted i s.scan → t ≡ tx_of s f → Counted (i + 1) t.scan
counts_tx i s f c e = rw e (kept_count i s f c)

-- ---- along a row: what is left of it at place i, and one frame on
module _ (fs : List Frame) (i : ℕ) (f : Frame) {n : ℕ} (en : n ≡ length fs) (h : i < n) (ef : f ≡ get_or fs i no_frame) where
  one_more : {A : Type 0} (P : List Frame → A) → P (drop i fs) ≡ P (f ∷ drop (i + 1) fs)
  one_more P = at_drop_more P fs i no_frame (omega arith) ∙ ap (λ (g : Frame). P (g ∷ drop (i + 1) fs)) (sym ef)

  pub scan_on : (s₀ s : Scan) {t : Scan} → t ≡ scan_frame s f → scan_of s (drop i fs) ≡ scan_of s₀ fs → scan_of t (drop (i + 1) fs) ≡ scan_of s₀ fs
  scan_on s₀ s et e = ap (λ (u : Scan). scan_of u (drop (i + 1) fs)) et ∙ sym (one_more (scan_of s)) ∙ e

  pub tx_on : (t₀ s : Tx) {t : Tx} → t ≡ tx_of s f → tx_all s (drop i fs) ≡ tx_all t₀ fs → tx_all t (drop (i + 1) fs) ≡ tx_all t₀ fs
  tx_on t₀ s et e = ap (λ (u : Tx). tx_all u (drop (i + 1) fs)) et ∙ sym (one_more (tx_all s)) ∙ e

  pub arena_on : (s₀ : Scan) (o₀ : List ℕ) (s : Scan) (o : List ℕ) {t : Scan} {p : List ℕ} → t ≡ scan_frame s f → p ≡ sets o s.total (added_of s f)
      → arena_left s o (drop i fs) ≡ arena_left s₀ o₀ fs → arena_left t p (drop (i + 1) fs) ≡ arena_left s₀ o₀ fs
  arena_on s₀ o₀ s o et ep e = rw (et, ep) (sym (arena_more s f o (drop (i + 1) fs)) ∙ sym (one_more (arena_left s o)) ∙ e)

  pub list_on : (s₀ : Scan) (o₀ : List ℕ) (s : Scan) (o : List ℕ) {t : Scan} {p : List ℕ} → t ≡ scan_frame s f → p ≡ sets o (3 * s.messages) (row_of s f)
      → list_left s o (drop i fs) ≡ list_left s₀ o₀ fs → list_left t p (drop (i + 1) fs) ≡ list_left s₀ o₀ fs
  list_on s₀ o₀ s o et ep e = rw (et, ep) (sym (list_more s f o (drop (i + 1) fs)) ∙ sym (one_more (list_left s o)) ∙ e)
