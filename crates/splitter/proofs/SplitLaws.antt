-- Laws of the parts of the splitter's definition, in the shape of the code's tests. Assumes nothing.
use Rattle.std.proofs.Common.{◌≡◌, ℕ, zero, suc, ◌+◌, ◌-◌, ◌*◌, ◌≤◌, Bool, true, false, eqb, ltb, List, [], ◌∷◌, ◌++◌, length, drop, set, sym, refl, ap, ◌∙◌, add-one, arith, ltb-false}
use Rattle.std.specs.Prelude.{Result, Ok, Err}
use lib.Seq.{sets}
use Rattle.base.specs.Pick.{pick}
use Rattle.base.specs.Answer.{Answer, gives, refuses, counted}
use borrow.Rule.Slice.PartMut.{put_mid}
use Rattle.splitter.specs.Frames.{is_wide, eight, frame_bytes, count_in}
use Rattle.base.proofs.Cases.{pick_all}
use Rattle.base.proofs.Fills.{length_fill}
use Rattle.splitter.specs.Bytes.{split_bytes, split_frame, count_of}
use Rattle.splitter.specs.inner.Told.{told_of}
use Rattle.splitter.specs.Split.{split_frames_from, split_frames, split_of, of_split, row_with, ids_of, bytes_all, lens_of, ids_with, bytes_with, lens_with, SplitsInto, SplitsIntoSlices}
use Rattle.splitter.specs.declared.SplitError.{SplitError}
use Rattle.splitter.specs.declared.SplitError.TheVariants.{BadSplit, TooWide, Short}
use Rattle.splitter.specs.declared.Frame.{Frame}
use Rattle.splitter.proofs.FrameLaws.{eight_same, mid_sets, sets_more}

-- ---- the answer, by its five tests
module _ (a b c w d : Bool) (n : ℕ) where
  abbrev code : Result ℕ SplitError
  code = pick a (Err BadSplit) (pick b (Err BadSplit) (pick c (Err BadSplit) (pick w (Err TooWide) (pick d (Err Short) (Ok n)))))

  abbrev paper : List Frame → Answer (List Frame)
  paper fs = pick a (refuses 28 []) (pick b (refuses 28 []) (pick c (refuses 28 []) (pick w (refuses 8 []) (pick d (refuses 27 []) (gives fs)))))

tests_told : (a b c w d : Bool) (n : ℕ) (fs : List Frame) → length fs ≡ n → of_split (code a b c w d n) ≡ counted (paper a b c w d n fs)
unfolding pick of_split counted
tests_told true b c w d n fs e = refl
tests_told false true c w d n fs e = refl
tests_told false false true w d n fs e = refl
tests_told false false false true d n fs e = refl
tests_told false false false false true n fs e = refl
tests_told false false false false false n fs e = ap gives (sym e)

tests_refuse : {A : Type 0} (W : Answer (List Frame) → List A → List A) (l : List A) → ((k : ℕ) (vs : List ℕ) → l ≡ W (refuses k vs) l)
    → (a b c w d : Bool) (n : ℕ) (fs : List Frame) {x : SplitError} → Err x ≡ code a b c w d n → l ≡ W (paper a b c w d n fs) l
unfolding pick
tests_refuse W l still true b c w d n fs e = still 28 []
tests_refuse W l still false true c w d n fs e = still 28 []
tests_refuse W l still false false true w d n fs e = still 28 []
tests_refuse W l still false false false true d n fs e = still 8 []
tests_refuse W l still false false false false true n fs e = still 27 []
tests_refuse W l still false false false false false n fs e = let z : ◌≡◌ {A = ℕ} 0 1 = cc in absurd (omega arith)

tests_give : (a b c w d : Bool) (n m : ℕ) (fs : List Frame) → Ok m ≡ code a b c w d n → (paper a b c w d n fs ≡ gives fs) × (b ≡ false) × (d ≡ false) × (m ≡ n)
unfolding pick
tests_give true b c w d n m fs e = let z : ◌≡◌ {A = ℕ} 0 1 = cc in absurd (omega arith)
tests_give false true c w d n m fs e = let z : ◌≡◌ {A = ℕ} 0 1 = cc in absurd (omega arith)
tests_give false false true w d n m fs e = let z : ◌≡◌ {A = ℕ} 0 1 = cc in absurd (omega arith)
tests_give false false false true d n m fs e = let z : ◌≡◌ {A = ℕ} 0 1 = cc in absurd (omega arith)
tests_give false false false false true n m fs e = let z : ◌≡◌ {A = ℕ} 0 1 = cc in absurd (omega arith)
tests_give false false false false false n m fs e = (refl, refl, refl, cc)

pub length_frames : (id sequence : ℕ) (p : List ℕ) (n k : ℕ) → length (split_frames_from id sequence p k n) ≡ n
length_frames id sequence p zero k = refl
length_frames id sequence p (suc n) k = ap suc (length_frames id sequence p n (suc k))

-- ---- the splitter's two ways out, whatever it writes to
module _ (id sequence : ℕ) (p : List ℕ) (space : ℕ) where
  abbrev size : ℕ
  size = length p

  pub split_told : {s : Result ℕ SplitError} → s ≡ told_of id sequence (length p) space → of_split s ≡ counted (split_of id sequence p space)
  unfolding told_of split_of
  split_told es = ap of_split es ∙ tests_told (eqb size 0) (ltb 223 size) (ltb 7 sequence) (is_wide id) (ltb space (count_of size)) (count_of size) (split_frames id sequence p) (length_frames id sequence p (count_of size) 0)

  split_keeps : {A : Type 0} (W : Answer (List Frame) → List A → List A) (l : List A) → ((k : ℕ) (vs : List ℕ) → l ≡ W (refuses k vs) l) → {x : SplitError} → Err x ≡ told_of id sequence (length p) space → l ≡ W (split_of id sequence p space) l
  unfolding told_of split_of
  split_keeps W l still e = tests_refuse W l still (eqb size 0) (ltb 223 size) (ltb 7 sequence) (is_wide id) (ltb space (count_of size)) (count_of size) (split_frames id sequence p) e

  module _ (n : ℕ) (e : Ok n ≡ told_of id sequence (length p) space) where
    gave : (split_of id sequence p space ≡ gives (split_frames id sequence p)) × (ltb 223 size ≡ false) × (ltb space (count_of size) ≡ false) × (n ≡ count_of size)
    unfolding told_of split_of
    gave = tests_give (eqb size 0) (ltb 223 size) (ltb 7 sequence) (is_wide id) (ltb space (count_of size)) (count_of size) n (split_frames id sequence p) e

    pub split_small : length p ≤ 223
    split_small = ltb-false 223 size gave.1

    pub split_count : n ≡ count_of (length p)
    split_count = gave.3

    pub split_room : n ≤ space
    split_room = let h : count_of size ≤ space = ltb-false space (count_of size) gave.2 in omega (arith, split_count)

    -- what is laid is what the paper has laid
    split_lays : {A : Type 0} (W : Answer (List Frame) → List A → List A) (F : List Frame → List A) (l : List A) → ((fs : List Frame) → F fs ≡ W (gives fs) l) → F (split_frames_from id sequence p 0 n) ≡ W (split_of id sequence p space) l
    split_lays W F l laid = ap (λ (k : ℕ). F (split_frames_from id sequence p 0 k)) split_count ∙ laid (split_frames id sequence p) ∙ sym (ap (λ (x : Answer (List Frame)). W x l) gave.0)

-- into a row of frames
module _ (id sequence : ℕ) (p : List ℕ) (rows : List Frame) where
  pub split_stops : {x : SplitError} → Err x ≡ told_of id sequence (length p) (length rows) → SplitsInto id sequence p rows (Err x) rows
  unfolding row_with
  split_stops e = record { answer = split_told id sequence p (length rows) e; row_after = split_keeps id sequence p (length rows) row_with rows (λ k vs. refl) e }

  pub split_goes_on : {n : ℕ} {rows' : List Frame} → Ok n ≡ told_of id sequence (length p) (length rows) → rows' ≡ sets rows 0 (split_frames_from id sequence p 0 n) → SplitsInto id sequence p rows (Ok n) rows'
  unfolding row_with
  split_goes_on {n} e er = record {
    answer = split_told id sequence p (length rows) e;
    row_after = er ∙ split_lays id sequence p (length rows) n e row_with (sets rows 0) rows (λ fs. refl);
  }

-- into separate slices
module _ (id sequence : ℕ) (p ids bytes lens : List ℕ) {m : ℕ} (em : m ≡ count_in (length ids) (length bytes) (length lens)) where
  abbrev space : ℕ
  space = count_in (length ids) (length bytes) (length lens)

  same_room : {s : Result ℕ SplitError} → s ≡ told_of id sequence (length p) m → s ≡ told_of id sequence (length p) space
  same_room e = e ∙ ap (told_of id sequence (length p)) em

  pub rows_stop : {x : SplitError} → Err x ≡ told_of id sequence (length p) m → SplitsIntoSlices id sequence p ids bytes lens (Err x) ids bytes lens
  unfolding ids_with bytes_with lens_with
  rows_stop e = record {
    answer = split_told id sequence p space (same_room e);
    ids_after = split_keeps id sequence p space ids_with ids (λ k vs. refl) (same_room e);
    bytes_after = split_keeps id sequence p space bytes_with bytes (λ k vs. refl) (same_room e);
    lens_after = split_keeps id sequence p space lens_with lens (λ k vs. refl) (same_room e);
  }

  pub rows_go_on : {n : ℕ} {ids' bytes' lens' : List ℕ} → Ok n ≡ told_of id sequence (length p) m
      → ids' ≡ sets ids 0 (ids_of (split_frames_from id sequence p 0 n)) → bytes' ≡ sets bytes 0 (bytes_all (split_frames_from id sequence p 0 n)) → lens' ≡ sets lens 0 (lens_of (split_frames_from id sequence p 0 n))
      → SplitsIntoSlices id sequence p ids bytes lens (Ok n) ids' bytes' lens'
  unfolding ids_with bytes_with lens_with
  rows_go_on {n} e ei eb el = record {
    answer = split_told id sequence p space (same_room e);
    ids_after = ei ∙ split_lays id sequence p space n (same_room e) ids_with (λ fs. sets ids 0 (ids_of fs)) ids (λ fs. refl);
    bytes_after = eb ∙ split_lays id sequence p space n (same_room e) bytes_with (λ fs. sets bytes 0 (bytes_all fs)) bytes (λ fs. refl);
    lens_after = el ∙ split_lays id sequence p space n (same_room e) lens_with (λ fs. sets lens 0 (lens_of fs)) lens (λ fs. refl);
  }

-- ---- a frame has eight bytes
pub bytes_eight : (sequence : ℕ) (p : List ℕ) (index : ℕ) → length (split_bytes sequence p index) ≡ 8
unfolding split_bytes
bytes_eight sequence p index = ap suc (pick_all (λ (l : List ℕ). length l ≡ 7) (eqb index 0) (ap suc (length_fill 6 p)) (length_fill 7 (drop (7 * index - 1) p)))

-- ---- what a frame adds to each slice
module _ (f : Frame) where
  ids_add : (fs : List Frame) → ids_of (fs ++ f ∷ []) ≡ ids_of fs ++ f.id ∷ []
  unfolding ids_of
  ids_add [] = refl
  ids_add (g ∷ fs) = ap (λ (l : List ℕ). g.id ∷ l) (ids_add fs)

  lens_add : (fs : List Frame) → lens_of (fs ++ f ∷ []) ≡ lens_of fs ++ f.len ∷ []
  unfolding lens_of
  lens_add [] = refl
  lens_add (g ∷ fs) = ap (λ (l : List ℕ). g.len ∷ l) (lens_add fs)

  bytes_add : (fs : List Frame) → bytes_all (fs ++ f ∷ []) ≡ bytes_all fs ++ frame_bytes f
  unfolding bytes_all eight
  bytes_add [] = refl
  bytes_add (g ∷ fs) = ap (λ (l : List ℕ). frame_bytes g ++ l) (bytes_add fs)

ids_long : (fs : List Frame) → length (ids_of fs) ≡ length fs
unfolding ids_of
ids_long [] = refl
ids_long (f ∷ fs) = ap suc (ids_long fs)

lens_long : (fs : List Frame) → length (lens_of fs) ≡ length fs
unfolding lens_of
lens_long [] = refl
lens_long (f ∷ fs) = ap suc (lens_long fs)

bytes_long : (fs : List Frame) → length (bytes_all fs) ≡ 8 * length fs
unfolding bytes_all eight
bytes_long [] = refl
bytes_long (f ∷ fs) = omega (arith, bytes_long fs)

-- ---- a loop that lays the frames of a payload: the first i are laid after i turns
module _ (id sequence : ℕ) (p : List ℕ) where
  abbrev pub first_frames : ℕ → List Frame
  first_frames i = split_frames_from id sequence p 0 i

  one_more_from : (k i : ℕ) → split_frames_from id sequence p k (suc i) ≡ split_frames_from id sequence p k i ++ split_frame id sequence p (k + i) ∷ []
  one_more_from k zero = let e : k ≡ k + 0 = omega arith in ap (λ (m : ℕ). split_frame id sequence p m ∷ []) e
  one_more_from k (suc i) = let e : suc k + i ≡ k + suc i = omega arith in
      ap (λ (fs : List Frame). split_frame id sequence p k ∷ fs) (one_more_from (suc k) i ∙ ap (λ (m : ℕ). split_frames_from id sequence p (suc k) i ++ split_frame id sequence p m ∷ []) e)

  one_more : (i : ℕ) → first_frames (i + 1) ≡ first_frames i ++ split_frame id sequence p i ∷ []
  one_more i = let e : 0 + i ≡ i = omega arith in ap first_frames (add-one i) ∙ one_more_from 0 i ∙ ap (λ (m : ℕ). first_frames i ++ split_frame id sequence p m ∷ []) e

  count_first : (i : ℕ) → length (first_frames i) ≡ i
  count_first i = length_frames id sequence p i 0

  -- whatever of the frames is laid
  laid_more : {A : Type 0} (F : List Frame → List A) (g : Frame → List A) → ((f : Frame) (fs : List Frame) → F (fs ++ f ∷ []) ≡ F fs ++ g f)
      → (o : List A) (i n : ℕ) → length (F (first_frames i)) ≡ n → sets (sets o 0 (F (first_frames i))) n (g (split_frame id sequence p i)) ≡ sets o 0 (F (first_frames (i + 1)))
  laid_more F g adds o i n e =
      let z : 0 + length (F (first_frames i)) ≡ n = omega (arith, e) in
      let f : Frame = split_frame id sequence p i in
      sym
      (ap (λ (fs : List Frame). sets o 0 (F fs)) (one_more i)
      ∙ ap (sets o 0) (adds f (first_frames i))
      ∙ sets_more (F (first_frames i)) (g f) o 0
      ∙ ap (λ (k : ℕ). sets (sets o 0 (F (first_frames i))) k (g f)) z)

  module _ (i : ℕ) {f : Frame} (ef : f ≡ split_frame id sequence p i) where
    pub row_turn : (l o : List Frame) → l ≡ sets o 0 (first_frames i) → set l i f ≡ sets o 0 (first_frames (i + 1))
    row_turn l o e = rw (e, ef) (laid_more (λ fs. fs) (λ g. g ∷ []) (λ g fs. refl) o i i (count_first i))

    pub ids_turn : (l o : List ℕ) → l ≡ sets o 0 (ids_of (first_frames i)) → set l i f.id ≡ sets o 0 (ids_of (first_frames (i + 1)))
    ids_turn l o e = rw (e, ef) (laid_more ids_of (λ g. g.id ∷ []) ids_add o i i (ids_long (first_frames i) ∙ count_first i))

    pub lens_turn : (l o : List ℕ) → l ≡ sets o 0 (lens_of (first_frames i)) → set l i f.len ≡ sets o 0 (lens_of (first_frames (i + 1)))
    lens_turn l o e = rw (e, ef) (laid_more lens_of (λ g. g.len ∷ []) lens_add o i i (lens_long (first_frames i) ∙ count_first i))

    pub bytes_turn : (l o : List ℕ) (k : ℕ) {bs : List ℕ} → length bs ≡ 8 → k ≡ 8 → bs ≡ f.«data» → 8 * i + 8 ≤ length l → l ≡ sets o 0 (bytes_all (first_frames i)) → put_mid (8 * i) k l bs ≡ sets o 0 (bytes_all (first_frames (i + 1)))
    bytes_turn l o k {bs} n ek eb h e =
        let eight_of : bs ≡ frame_bytes (split_frame id sequence p i) = sym (eight_same bs n) ∙ ap eight (eb ∙ ap (λ (g : Frame). g.«data») ef) in
        let all : 8 * length (first_frames i) ≡ 8 * i = ap (λ (m : ℕ). 8 * m) (count_first i) in
        mid_sets l bs (8 * i) k (ek ∙ sym n) (rw n h)
        ∙ ap (λ (q : List ℕ). sets l (8 * i) q) eight_of
        ∙ ap (λ (q : List ℕ). sets q (8 * i) (frame_bytes (split_frame id sequence p i))) e
        ∙ laid_more bytes_all frame_bytes bytes_add o i (8 * i) (bytes_long (first_frames i) ∙ all)
