-- What the splitter lays out in separate slices, read as a row, is its frames: the first of the row, in order.
--     starts      slices that begin with the numbers of some frames have those frames first
--     laid_out    the slices that `fast_packet_rows` leaves have the payload's frames first
-- Assumes nothing.
use Prim.Native.Nat.{ℕ, zero, suc, ◌+◌, ◌*◌, ◌≤◌}
use mathlib.Core.List.{List, [], ◌∷◌, ◌++◌}
use mathlib.Core.Path.{◌≡◌, refl, sym, ap, ◌∙◌}
use native.Mathlib.Nat.{zero-add}
use native.Mathlib.Omega.{arith}
use lib.ListN.{length, get_or, take, drop, length-append}
use lib.Seq.{sets, sets-eq, length-sets, get_or-drop, drop-drop}
use Rattle.base.specs.Answer.{gives}
use Rattle.splitter.specs.Frames.{eight, frame_bytes, count_in}
use Rattle.splitter.specs.Bytes.{split_frame, count_of}
use Rattle.splitter.specs.Split.{split_frames_from, split_frames, ids_of, bytes_all, lens_of, ids_with, bytes_with, lens_with}
use Rattle.splitter.specs.declared.Frame.{Frame}
use Rattle.splitter.proofs.FrameLaws.{eight_same, eight_long}
use Rattle.splitter.proofs.SplitLaws.{length_frames, bytes_eight}
use Rattle.oracle.specs.Rows.{frame_in, frames_in, row_in}

-- each frame has eight bytes
abbrev pub Eights : List Frame → Type 0
Eights [] = Unit {0}
Eights (f ∷ fs) = (length f.«data» ≡ 8) × Eights fs

-- ---- a row from its second frame on is the row of the slices without their first
module _ (ids bytes lens : List ℕ) where
  frame_shift : (i : ℕ) → frame_in ids bytes lens (i + 1) ≡ frame_in (drop 1 ids) (drop 8 bytes) (drop 1 lens) i
  unfolding frame_in
  frame_shift i =
      let p : 1 + i ≡ i + 1 = omega arith in
      let q : 8 + 8 * i ≡ 8 * (i + 1) = omega arith in
      let a : get_or ids (i + 1) 0 ≡ get_or (drop 1 ids) i 0 = sym (get_or-drop 1 ids i 0 ∙ ap (λ (k : ℕ). get_or ids k 0) p) in
      let b : drop (8 * (i + 1)) bytes ≡ drop (8 * i) (drop 8 bytes) = sym (drop-drop (8 * i) 8 bytes ∙ ap (λ (k : ℕ). drop k bytes) q) in
      let c : get_or lens (i + 1) 0 ≡ get_or (drop 1 lens) i 0 = sym (get_or-drop 1 lens i 0 ∙ ap (λ (k : ℕ). get_or lens k 0) p) in
      simp (a, b, c)

  shift : (i n : ℕ) → frames_in ids bytes lens (i + 1) n ≡ frames_in (drop 1 ids) (drop 8 bytes) (drop 1 lens) i n
  shift i zero = refl
  shift i (suc n) = ap (λ (f : Frame). f ∷ frames_in ids bytes lens (i + 1 + 1) n) (frame_shift i) ∙ ap (λ (fs : List Frame). frame_in (drop 1 ids) (drop 8 bytes) (drop 1 lens) i ∷ fs) (shift (i + 1) n)

-- ---- slices that begin with the numbers of some frames
head_is : (f : Frame) (fs : List Frame) (a b c : List ℕ) → length f.«data» ≡ 8 → frame_in (ids_of (f ∷ fs) ++ a) (bytes_all (f ∷ fs) ++ b) (lens_of (f ∷ fs) ++ c) 0 ≡ f
unfolding frame_in eight ids_of bytes_all lens_of
head_is f fs a b c n = ap (λ (bs : List ℕ). record { id = f.id; «data» = bs; len = f.len }) (eight_same f.«data» n)

starts : (fs : List Frame) → Eights fs → (a b c : List ℕ) → frames_in (ids_of fs ++ a) (bytes_all fs ++ b) (lens_of fs ++ c) 0 (length fs) ≡ fs
unfolding ids_of bytes_all lens_of eight
starts [] es a b c = refl
starts (f ∷ fs) es a b c =
    ap (λ (g : Frame). g ∷ frames_in (ids_of (f ∷ fs) ++ a) (bytes_all (f ∷ fs) ++ b) (lens_of (f ∷ fs) ++ c) (0 + 1) (length fs)) (head_is f fs a b c es.0)
    ∙ ap (λ (gs : List Frame). f ∷ gs) (shift (ids_of (f ∷ fs) ++ a) (bytes_all (f ∷ fs) ++ b) (lens_of (f ∷ fs) ++ c) 0 (length fs) ∙ starts fs es.1 a b c)

-- ---- as many numbers as frames
ids_long : (fs : List Frame) → length (ids_of fs) ≡ length fs
unfolding ids_of
ids_long [] = refl
ids_long (f ∷ fs) = ap suc (ids_long fs)

lens_long : (fs : List Frame) → length (lens_of fs) ≡ length fs
unfolding lens_of
lens_long [] = refl
lens_long (f ∷ fs) = ap suc (lens_long fs)

bytes_long : (fs : List Frame) → length (bytes_all fs) ≡ 8 * length fs
unfolding bytes_all
bytes_long [] = refl
bytes_long (f ∷ fs) =
    let e : length (frame_bytes f ++ bytes_all fs) ≡ length (frame_bytes f) + length (bytes_all fs) = length-append (frame_bytes f) (bytes_all fs) in
    let l : length (frame_bytes f) ≡ 8 = eight_long f.«data» in
    let h : length (bytes_all fs) ≡ 8 * length fs = bytes_long fs in
    omega arith

first_of_lem : (ids bytes lens : List ℕ) (i n k : ℕ) → k ≤ n → take k (frames_in ids bytes lens i n) ≡ frames_in ids bytes lens i k
first_of_lem ids bytes lens i n zero h = refl
first_of_lem ids bytes lens i zero (suc k) h = absurd (omega arith)
first_of_lem ids bytes lens i (suc n) (suc k) h = ap (λ (fs : List Frame). frame_in ids bytes lens i ∷ fs) (first_of_lem ids bytes lens (i + 1) n k (omega arith))

-- ---- slices with room for some frames, once these are laid out in them
module _ (fs : List Frame) (es : Eights fs) (ids bytes lens : List ℕ) (room : length fs ≤ count_in (length ids) (length bytes) (length lens)) where
  ids_laid : sets ids 0 (ids_of fs) ≡ ids_of fs ++ drop (length (ids_of fs)) ids
  ids_laid = sets-eq (ids_of fs) ids 0 (omega (arith, ids_long fs)) ∙ ap (λ (k : ℕ). ids_of fs ++ drop k ids) (zero-add (length (ids_of fs)))

  bytes_laid_lem : sets bytes 0 (bytes_all fs) ≡ bytes_all fs ++ drop (length (bytes_all fs)) bytes
  bytes_laid_lem = sets-eq (bytes_all fs) bytes 0 (omega (arith, bytes_long fs)) ∙ ap (λ (k : ℕ). bytes_all fs ++ drop k bytes) (zero-add (length (bytes_all fs)))

  lens_laid : sets lens 0 (lens_of fs) ≡ lens_of fs ++ drop (length (lens_of fs)) lens
  lens_laid = sets-eq (lens_of fs) lens 0 (omega (arith, lens_long fs)) ∙ ap (λ (k : ℕ). lens_of fs ++ drop k lens) (zero-add (length (lens_of fs)))

  pub rows_start : take (length fs) (row_in (sets ids 0 (ids_of fs)) (sets bytes 0 (bytes_all fs)) (sets lens 0 (lens_of fs))) ≡ fs
  unfolding row_in
  rows_start =
      let ids' : List ℕ = sets ids 0 (ids_of fs) in
      let bytes' : List ℕ = sets bytes 0 (bytes_all fs) in
      let lens' : List ℕ = sets lens 0 (lens_of fs) in
      let n : length fs ≤ count_in (length ids') (length bytes') (length lens') = rw (length-sets ids 0 (ids_of fs), length-sets bytes 0 (bytes_all fs), length-sets lens 0 (lens_of fs)) room in
      first_of_lem ids' bytes' lens' 0 (count_in (length ids') (length bytes') (length lens')) (length fs) n
      ∙ rw (ids_laid, bytes_laid_lem, lens_laid) (starts fs es (drop (length (ids_of fs)) ids) (drop (length (bytes_all fs)) bytes) (drop (length (lens_of fs)) lens))

-- ---- the splitter's frames have eight bytes each
frames_eight : (id sequence : ℕ) (payload : List ℕ) (index n : ℕ) → Eights (split_frames_from id sequence payload index n)
unfolding split_frame
frames_eight id sequence payload index zero = tt
frames_eight id sequence payload index (suc n) = (bytes_eight sequence payload index, frames_eight id sequence payload (suc index) n)

-- what `fast_packet_rows` leaves where it gives the frames, read as a row
module _ (id sequence : ℕ) (payload ids bytes lens : List ℕ) (room : count_of (length payload) ≤ count_in (length ids) (length bytes) (length lens)) where
  pub laid_out : take (count_of (length payload)) (row_in (ids_with (gives (split_frames id sequence payload)) ids) (bytes_with (gives (split_frames id sequence payload)) bytes) (lens_with (gives (split_frames id sequence payload)) lens)) ≡ split_frames id sequence payload
  unfolding ids_with bytes_with lens_with
  laid_out =
      let fs : List Frame = split_frames id sequence payload in
      let n : length fs ≡ count_of (length payload) = length_frames id sequence payload (count_of (length payload)) 0 in
      ap (λ (k : ℕ). take k (row_in (sets ids 0 (ids_of fs)) (sets bytes 0 (bytes_all fs)) (sets lens 0 (lens_of fs)))) (sym n)
      ∙ rows_start fs (frames_eight id sequence payload 0 (count_of (length payload))) ids bytes lens (omega (arith, n))
