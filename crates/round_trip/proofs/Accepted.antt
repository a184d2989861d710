-- A row that strict reassembly accepts is, for that source and PGN, the splitter's frames of its messages, in order: the same bytes and lengths, identifiers aside.
--     accepted   the theorem
-- Assumes nothing.
use Prim.Native.Nat.{ℕ, zero, suc, ◌+◌, ◌-◌, ◌*◌, ◌/◌, ◌%◌, ◌<◌, ◌≤◌}
use mathlib.Core.Bool.{true, false}
use mathlib.Core.List.{List, [], ◌∷◌, ◌++◌}
use mathlib.Core.Option.{Option, none, some}
use mathlib.Core.Path.{◌≡◌, refl, sym, ap, ◌∙◌, subst}
use native.Mathlib.Numerals.{add-one}
use native.Mathlib.Omega.{arith}
use lib.Dec.{eqb}
use lib.ListN.{length, get_or, take, drop, length-append, length-take}
use lib.Seq.{take_all, take-add, take-take, drop_at, take-append_seam, drop-append_seam, take-append-add, drop-append-add, length-take-le}
use Rattle.base.specs.Answer.{Answer, gives, refuses}
use Rattle.base.specs.Pick.{pick}
use Rattle.base.specs.Lists.{fill}
use Rattle.base.proofs.Fills.{length_fill, take_fill}
use Rattle.base.proofs.Cases.{tested, less?, same?, when_eq, when_ne, when_lt, when_ge, when_true, when_false}
use Rattle.splitter.specs.Frames.{eight, frame_bytes}
use Rattle.oracle.specs.Ids.{is_other}
use Rattle.oracle.specs.Strict.{bench_index, bench_sequence, odd_of, BenchMessage, OpenMessage, FrameOutcome, refused, waits, whole, collected_at, first_frame, later_frame, outcome_of, before, then_of, end_of, messages_from, messages_of}
use Rattle.splitter.specs.Bytes.{split_bytes, split_frame, count_of}
use Rattle.splitter.specs.Split.{split_frames_from}
use Rattle.round_trip.specs.Sent.{own_frames, under, split_all, AreBytes, AreSplit}
use Rattle.splitter.specs.declared.Frame.{Frame}

-- ---- the frames of a row that are not skipped
pub owned : (id source pgn : ℕ) (f : Frame) (fs : List Frame) → is_other source pgn f.id ≡ false → under id (own_frames source pgn (f ∷ fs)) ≡ record { id = id; «data» = frame_bytes f; len = f.len } ∷ under id (own_frames source pgn fs)
unfolding own_frames under
owned id source pgn f fs mine = ap (under id) (sym (when_false (own_frames source pgn fs) (f ∷ own_frames source pgn fs) mine refl))

pub passed : (source pgn : ℕ) (f : Frame) (fs : List Frame) → is_other source pgn f.id ≡ true → own_frames source pgn (f ∷ fs) ≡ own_frames source pgn fs
unfolding own_frames
passed source pgn f fs other = sym (when_true _ _ other refl)

-- the bytes collected so far
abbrev had : Option OpenMessage → List ℕ
had none = []
had (some o) = o.bytes

-- ---- what a frame that is taken says of the open message that it joins
-- the index that must come, the bytes before the message's, and the announced length
abbrev at : Option OpenMessage → ℕ
at none = 0
at (some o) = o.index

abbrev head : Option OpenMessage → ℕ
head none = 2
head (some o) = 1

abbrev size : Option OpenMessage → List ℕ → ℕ
size none bs = get_or bs 1 0
size (some o) bs = o.announced

abbrev SameSequence : Option OpenMessage → List ℕ → Type 0
SameSequence none bs = (1 ≤ get_or bs 1 0) × (get_or bs 1 0 ≤ 223)
SameSequence (some o) bs = bench_sequence bs ≡ o.sequence

record Joins (o : Option OpenMessage) (bs : List ℕ) (len : ℕ) (p : OpenMessage) : Type 0 where
  full : len ≡ 8
  here : bench_index bs ≡ at o
  follows : SameSequence o bs
  is : p ≡ record { sequence = bench_sequence bs; announced = size o bs; index = at o + 1; bytes = had o ++ drop (head o) bs }

record Ends (o : Option OpenMessage) (bs : List ℕ) (len : ℕ) (m : BenchMessage) : Type 0 where
  full : len ≡ 8
  here : bench_index bs ≡ at o
  follows : SameSequence o bs
  reached : size o bs ≤ length (had o ++ drop (head o) bs)
  padded : odd_of (drop (size o bs) (had o ++ drop (head o) bs)) ≡ 255
  is : m ≡ record { sequence = bench_sequence bs; payload = take (size o bs) (had o ++ drop (head o) bs) }

abbrev Says : Option OpenMessage → List ℕ → ℕ → FrameOutcome → Type 0
Says o bs len (refused k vs) = Unit {0}
Says o bs len (waits p) = Joins o bs len p × (length p.bytes < p.announced)
Says o bs len (whole m) = Ends o bs len m

collected_says : (n : ℕ) (o : Option OpenMessage) (bs : List ℕ) (len : ℕ) → len ≡ 8 → bench_index bs ≡ at o → SameSequence o bs
    → Says o bs len (collected_at n (record { sequence = bench_sequence bs; announced = size o bs; index = at o + 1; bytes = had o ++ drop (head o) bs }))
unfolding collected_at
collected_says n o bs len full here follows =
    let l : List ℕ = had o ++ drop (head o) bs in
    less? (length l) (size o bs)
    (λ h. subst (Says o bs len) (when_lt _ _ h refl) (record { full = full; here = here; follows = follows; is = refl }, h))
    (λ h. subst (Says o bs len) (when_ge _ _ {a = length l} {b = size o bs} h refl)
    (same? (odd_of (drop (size o bs) l)) 255
    (λ e. subst (Says o bs len) (when_eq _ _ e refl) (record { full = full; here = here; follows = follows; reached = h; padded = e; is = refl }))
    (λ e. subst (Says o bs len) (when_ne _ _ e refl) tt)))

module _ (n : ℕ) (bs : List ℕ) (len : ℕ) (full : len ≡ 8) where
  first_says : (o : Option OpenMessage) → bench_index bs ≡ 0 → Says o bs len (first_frame n o bs)
  unfolding first_frame
  first_says (some o) z = tt
  first_says none z =
      same? (get_or bs 1 0) 0
      (λ x. subst (Says none bs len) (when_eq _ _ x refl) tt)
      (λ x. subst (Says none bs len) (when_ne _ _ x refl)
      (less? 223 (get_or bs 1 0)
      (λ y. subst (Says none bs len) (when_lt _ _ y refl) tt)
      (λ y. subst (Says none bs len) (when_ge _ _ {a = 223} {b = get_or bs 1 0} y refl)
      (collected_says n none bs len full z (less? 0 (get_or bs 1 0) (λ g. g) (λ g. absurd (x (omega arith))), y)))))

  later_says : (o : Option OpenMessage) → Says o bs len (later_frame n o bs)
  unfolding later_frame
  later_says none = tt
  later_says (some o) =
      same? (bench_sequence bs) o.sequence
      (λ x. subst (Says (some o) bs len) (when_eq _ _ x refl)
      (same? (bench_index bs) o.index
      (λ y. subst (Says (some o) bs len) (when_eq _ _ y refl)
      (subst (λ (q : ℕ). Says (some o) bs len (collected_at n (record { sequence = q; announced = o.announced; index = o.index + 1; bytes = o.bytes ++ drop 1 bs }))) x (collected_says n (some o) bs len full y x)))
      (λ y. subst (Says (some o) bs len) (when_ne _ _ y refl) tt)))
      (λ x. subst (Says (some o) bs len) (when_ne _ _ x refl) tt)

frame_says : (n : ℕ) (o : Option OpenMessage) (bs : List ℕ) (len : ℕ) → Says o bs len (outcome_of n o bs len)
unfolding outcome_of first_frame later_frame
frame_says n o bs len =
    same? len 8
    (λ full. subst (Says o bs len) (when_eq _ _ full refl)
    (same? (bench_index bs) 0
    (λ z. subst (Says o bs len) (when_eq _ _ z refl) (first_says n bs len full o z))
    (λ z. subst (Says o bs len) (when_ne _ _ z refl) (later_says n bs len full o))))
    (λ e. subst (Says o bs len) (when_ne _ _ e refl) tt)

-- ---- the splitter makes such a frame
-- what stands after the message's bytes is the filling
fill_odd : (j : ℕ) (c : List ℕ) → odd_of (drop j c) ≡ 255 → fill (length c) (take j c) ≡ c
unfolding fill odd_of pick
fill_odd j [] e = refl
fill_odd (suc j) (b ∷ c) e = ap (λ (l : List ℕ). b ∷ l) (fill_odd j c e)
fill_odd zero (b ∷ c) e =
    same? b 255
    (λ h.
    let g : odd_of c ≡ 255 = when_eq _ _ h refl ∙ e in
    ap (λ (x : ℕ). x ∷ fill (length c) []) (sym h) ∙ ap (λ (l : List ℕ). b ∷ l) (fill_odd zero c g))
    (λ h. absurd (h (when_ne _ _ h refl ∙ e)))

fill_all : (c d : List ℕ) → take (length c) d ≡ c → fill (length c) d ≡ c
fill_all c d e =
    let h : length c ≤ length d = omega (arith, sym (length-take (length c) d) ∙ ap length e) in
    let l : length (fill (length c) d) ≤ length c = rw length_fill (omega arith) in
    sym (take_all (length c) (fill (length c) d) l) ∙ take_fill (length c) (length c) d (omega arith) h ∙ e

-- the bytes of a frame c, after q, where the message goes on after them
filled_on : (q c payload : List ℕ) → take (length (q ++ c)) payload ≡ q ++ c → fill (length c) (drop (length q) payload) ≡ c
filled_on q c payload e =
    let n : length (q ++ c) ≡ length q + length c = length-append q c in
    let h : length q ≤ length payload = omega (arith, n, sym (length-take (length (q ++ c)) payload) ∙ ap length e) in
    let r : List ℕ = drop (length q) payload in
    let s : take (length q) payload ++ take (length c) r ≡ q ++ c = sym (take-add (length q) (length c) payload) ∙ ap (λ (k : ℕ). take k payload) (sym n) ∙ e in
    fill_all c r (sym (drop_at (take (length q) payload) (take (length c) r) (length q) (length-take-le (length q) payload h)) ∙ ap (drop (length q)) s ∙ drop-append_seam q c)

-- and where it ends among them
filled_up : (a : ℕ) (q c : List ℕ) → length q ≤ a → odd_of (drop a (q ++ c)) ≡ 255 → fill (length c) (drop (length q) (take a (q ++ c))) ≡ c
filled_up a q c h e =
    let j : ℕ = a - length q in
    let z : a ≡ length q + (a - length q) = omega arith in
    let g : drop (length q) (take a (q ++ c)) ≡ take j c = ap (λ (k : ℕ). drop (length q) (take k (q ++ c))) z ∙ ap (drop (length q)) (take-append-add q c j) ∙ drop-append_seam q (take j c) in
    let o : odd_of (drop j c) ≡ 255 = sym (ap odd_of (ap (λ (k : ℕ). drop k (q ++ c)) z ∙ drop-append-add q c j)) ∙ e in
    ap (fill (length c)) g ∙ fill_odd j c o

-- an open message has the bytes of its first frames
abbrev Fair : Option OpenMessage → Type 0
Fair none = Unit {0}
Fair (some p) = (1 ≤ p.index) × (length p.bytes ≡ 7 * p.index - 1) × (length p.bytes < p.announced) × (p.announced ≤ 223)

-- byte 0 is sequence times 32 plus index
byte_zero : (b k : ℕ) → b < 256 → b % 32 ≡ k → b / 32 % 8 * 32 + k % 32 ≡ b
byte_zero b k h e = omega arith

module _ (d payload : List ℕ) (small : get_or d 0 0 < 256) where
  bytes_first : bench_index (eight d) ≡ 0 → length payload ≡ get_or (eight d) 1 0 → fill 6 payload ≡ drop 2 (eight d) → split_bytes (bench_sequence (eight d)) payload 0 ≡ eight d
  unfolding split_bytes eight pick
  bytes_first z l g = rw (byte_zero (get_or d 0 0) 0 small z, l, g)

  bytes_later : (k : ℕ) → 1 ≤ k → bench_index (eight d) ≡ k → fill 7 (drop (7 * k - 1) payload) ≡ drop 1 (eight d) → split_bytes (bench_sequence (eight d)) payload k ≡ eight d
  unfolding split_bytes eight
  bytes_later k h z g =
      let y : fill 7 (drop (7 * k - 1) payload) ≡ pick (eqb k 0) (length payload ∷ fill 6 payload) (fill 7 (drop (7 * k - 1) payload)) = when_ne _ _ {a = k} {b = 0} (λ e. omega arith) refl in
      rw (← y, byte_zero (get_or d 0 0) k small z, g)

frame_bytes_lem : (o : Option OpenMessage) (d payload : List ℕ) → get_or d 0 0 < 256 → Fair o → bench_index (eight d) ≡ at o → length payload ≡ size o (eight d)
    → fill (length (drop (head o) (eight d))) (drop (length (had o)) payload) ≡ drop (head o) (eight d) → split_bytes (bench_sequence (eight d)) payload (at o) ≡ eight d
unfolding eight
frame_bytes_lem none d payload small fair here l g = bytes_first d payload small here l g
frame_bytes_lem (some p) d payload small fair here l g =
    bytes_later d payload small p.index fair.0 here (ap (λ (n : ℕ). fill 7 (drop n payload)) (sym fair.1) ∙ g)

-- ---- counts
had_fits : (o : Option OpenMessage) (bs : List ℕ) → Fair o → length (had o) ≤ size o bs
had_fits none bs fair = omega arith
had_fits (some p) bs fair = let h : length p.bytes < p.announced = fair.2 in omega arith

in_count : (o : Option OpenMessage) (bs : List ℕ) → Fair o → (n : ℕ) → n ≡ size o bs → at o < count_of n
in_count none bs fair n h = omega arith
in_count (some p) bs fair n h =
    let a : 1 ≤ p.index = fair.0 in
    let b : length p.bytes ≡ 7 * p.index - 1 = fair.1 in
    let c : length p.bytes < p.announced = fair.2 in
    omega arith

last_count : (o : Option OpenMessage) → Fair o → (d : List ℕ) (n : ℕ) → n ≤ length (had o ++ drop (head o) (eight d)) → count_of n - (at o + 1) ≡ 0
unfolding eight
last_count none fair d n h = omega arith
last_count (some p) fair d n h =
    let a : 1 ≤ p.index = fair.0 in
    let b : length p.bytes ≡ 7 * p.index - 1 = fair.1 in
    let l : n ≤ length p.bytes + 7 = let e : length (p.bytes ++ drop 1 (eight d)) ≡ length p.bytes + 7 = length-append p.bytes (drop 1 (eight d)) in omega arith in
    omega arith

-- ---- the row
module _ (id source pgn : ℕ) where
  -- the frames from here on are those of the open message that are still to come, and of the messages after it
  record Goes (p : OpenMessage) (fs : List Frame) (ms : List BenchMessage) : Type 0 where
    m : BenchMessage
    later : List BenchMessage
    all : ms ≡ m ∷ later
    same_sequence : m.sequence ≡ p.sequence
    same_size : length m.payload ≡ p.announced
    starts : take (length p.bytes) m.payload ≡ p.bytes
    frames : under id (own_frames source pgn fs) ≡ split_frames_from id m.sequence m.payload p.index (count_of (length m.payload) - p.index) ++ split_all id later

  abbrev Sent : Option OpenMessage → List Frame → List BenchMessage → Type 0
  Sent none fs ms = under id (own_frames source pgn fs) ≡ split_all id ms
  Sent (some p) fs ms = Goes p fs ms

  concludes : (o : Option OpenMessage) (bs : List ℕ) (fs : List Frame) (m : BenchMessage) (later : List BenchMessage) (ms : List BenchMessage) → ms ≡ m ∷ later → m.sequence ≡ bench_sequence bs → length m.payload ≡ size o bs → SameSequence o bs
      → take (length (had o)) m.payload ≡ had o → under id (own_frames source pgn fs) ≡ split_frames_from id m.sequence m.payload (at o) (count_of (length m.payload) - at o) ++ split_all id later → Sent o fs ms
  unfolding split_all
  concludes none bs fs m later ms all q l follows starts e =
      let z : count_of (length m.payload) - 0 ≡ count_of (length m.payload) = omega arith in
      e ∙ ap (λ (n : ℕ). split_frames_from id m.sequence m.payload 0 n ++ split_all id later) z ∙ ap (split_all id) (sym all)
  concludes (some p) bs fs m later ms all q l follows starts e =
      record { m = m; later = later; all = all; same_sequence = q ∙ follows; same_size = l; starts = starts; frames = e }

  module _ (f : Frame) (fs : List Frame) (mine : is_other source pgn f.id ≡ false) (small : get_or f.«data» 0 0 < 256) (full : f.len ≡ 8) where
    abbrev bs : List ℕ
    bs = frame_bytes f

    one_frame : (q : ℕ) (payload : List ℕ) (k : ℕ) → split_bytes q payload k ≡ frame_bytes f → record { id = id; «data» = frame_bytes f; len = f.len } ≡ split_frame id q payload k
    unfolding split_frame
    one_frame q payload k e = rw (← e, full)

    -- the frame before the frames that follow
    led : (q : ℕ) (payload : List ℕ) (k : ℕ) (later : List BenchMessage) → k < count_of (length payload) → split_bytes q payload k ≡ frame_bytes f
        → under id (own_frames source pgn fs) ≡ split_frames_from id q payload (k + 1) (count_of (length payload) - (k + 1)) ++ split_all id later
        → under id (own_frames source pgn (f ∷ fs)) ≡ split_frames_from id q payload k (count_of (length payload) - k) ++ split_all id later
    led q payload k later h e rest =
        let n : count_of (length payload) - k ≡ suc (count_of (length payload) - (k + 1)) = omega arith in
        owned id source pgn f fs mine
        ∙ ap (λ (g : Frame). g ∷ under id (own_frames source pgn fs)) (one_frame q payload k e)
        ∙ ap (λ (l : List Frame). split_frame id q payload k ∷ l) (rest ∙ ap (λ (j : ℕ). split_frames_from id q payload j (count_of (length payload) - (k + 1)) ++ split_all id later) (add-one k))
        ∙ ap (λ (j : ℕ). split_frames_from id q payload k j ++ split_all id later) (sym n)

    module _ (o : Option OpenMessage) (fair : Fair o) (here : bench_index (frame_bytes f) ≡ at o) (follows : SameSequence o (frame_bytes f)) where
      abbrev c : List ℕ
      c = drop (head o) (frame_bytes f)

      -- it waits for more
      waits_sent : (ms : List BenchMessage) → length (had o ++ drop (head o) (frame_bytes f)) < size o (frame_bytes f)
          → Goes (record { sequence = bench_sequence (frame_bytes f); announced = size o (frame_bytes f); index = at o + 1; bytes = had o ++ drop (head o) (frame_bytes f) }) fs ms → Sent o (f ∷ fs) ms
      waits_sent ms wants g =
          let pl : List ℕ = g.m.payload in
          let le : length (had o) ≤ length (had o ++ c) = rw length-append (omega arith) in
          let b : split_bytes (bench_sequence (frame_bytes f)) pl (at o) ≡ frame_bytes f = frame_bytes_lem o f.«data» pl small fair here g.same_size (filled_on (had o) c pl g.starts) in
          let b' : split_bytes g.m.sequence pl (at o) ≡ frame_bytes f = ap (λ (q : ℕ). split_bytes q pl (at o)) g.same_sequence ∙ b in
          let room : at o < count_of (length pl) = in_count o (frame_bytes f) fair (length pl) g.same_size in
          concludes o (frame_bytes f) (f ∷ fs) g.m g.later ms g.all g.same_sequence g.same_size follows
          (sym (take-take (length (had o)) (length (had o ++ c)) pl le) ∙ ap (take (length (had o))) g.starts ∙ take-append_seam (had o) c)
          (led g.m.sequence pl (at o) g.later room b' g.frames)

      -- it ends the message
      whole_sent : (ms later : List BenchMessage) → size o (frame_bytes f) ≤ length (had o ++ drop (head o) (frame_bytes f)) → odd_of (drop (size o (frame_bytes f)) (had o ++ drop (head o) (frame_bytes f))) ≡ 255
          → ms ≡ record { sequence = bench_sequence (frame_bytes f); payload = take (size o (frame_bytes f)) (had o ++ drop (head o) (frame_bytes f)) } ∷ later → under id (own_frames source pgn fs) ≡ split_all id later → Sent o (f ∷ fs) ms
      whole_sent ms later reached padded all rest =
          let a : ℕ = size o (frame_bytes f) in
          let pl : List ℕ = take (size o (frame_bytes f)) (had o ++ drop (head o) (frame_bytes f)) in
          let n : length (take (size o (frame_bytes f)) (had o ++ drop (head o) (frame_bytes f))) ≡ size o (frame_bytes f) = length-take-le (size o (frame_bytes f)) (had o ++ c) reached in
          let le : length (had o) ≤ size o (frame_bytes f) = had_fits o (frame_bytes f) fair in
          let b : split_bytes (bench_sequence (frame_bytes f)) pl (at o) ≡ frame_bytes f = frame_bytes_lem o f.«data» pl small fair here n (filled_up (size o (frame_bytes f)) (had o) c le padded) in
          let room : at o < count_of (length pl) = in_count o (frame_bytes f) fair (length pl) n in
          let done : count_of (length pl) - (at o + 1) ≡ 0 = last_count o fair f.«data» (length pl) (omega (arith, n)) in
          concludes o (frame_bytes f) (f ∷ fs) (record { sequence = bench_sequence (frame_bytes f); payload = pl }) later ms all refl n follows
          (take-take (length (had o)) (size o (frame_bytes f)) (had o ++ c) le ∙ take-append_seam (had o) c)
          (led (bench_sequence (frame_bytes f)) pl (at o) later room b (rest ∙ ap (λ (j : ℕ). split_frames_from id (bench_sequence (frame_bytes f)) pl (at o + 1) j ++ split_all id later) (sym done)))

  -- the open message that a frame leaves is a fair one
  fair_next : (o : Option OpenMessage) (d : List ℕ) → Fair o → SameSequence o (eight d) → length (had o ++ drop (head o) (eight d)) < size o (eight d)
      → Fair (some (record { sequence = bench_sequence (eight d); announced = size o (eight d); index = at o + 1; bytes = had o ++ drop (head o) (eight d) }))
  unfolding eight
  fair_next none d fair follows h = (omega arith, refl, h, follows.1)
  fair_next (some p) d fair follows h =
      let a : 1 ≤ p.index = fair.0 in
      let b : length p.bytes ≡ 7 * p.index - 1 = fair.1 in
      let e : length (p.bytes ++ drop 1 (eight d)) ≡ length p.bytes + 7 = length-append p.bytes (drop 1 (eight d)) in
      (omega arith, omega arith, h, fair.3)

  abbrev Rest : List Frame → Type 0
  Rest fs = (n : ℕ) (o : Option OpenMessage) → Fair o → (ms : List BenchMessage) → messages_from source pgn n o fs ≡ gives ms → Sent o fs ms

  module _ (f : Frame) (fs : List Frame) (rest : Rest fs) (mine : is_other source pgn f.id ≡ false) (small : get_or f.«data» 0 0 < 256) (n : ℕ) (o : Option OpenMessage) (fair : Fair o) (ms : List BenchMessage) where
    -- a whole message before those of the rest
    before_sent : (m : BenchMessage) (x : Answer (List BenchMessage)) → before m x ≡ gives ms → (later : List BenchMessage) × (x ≡ gives later) × (ms ≡ m ∷ later)
    unfolding before
    before_sent m (refuses k vs) e = let z : ◌≡◌ {A = ℕ} 0 1 = cc in absurd (omega arith)
    before_sent m (gives later) e = (later, refl, cc)

    outcome_sent : (x : FrameOutcome) → Says o (frame_bytes f) f.len x → then_of x (λ o'. messages_from source pgn (n + 1) o' fs) ≡ gives ms → Sent o (f ∷ fs) ms
    unfolding then_of
    outcome_sent (refused k vs) d e = let z : ◌≡◌ {A = ℕ} 0 1 = cc in absurd (omega arith)
    outcome_sent (waits p) d e =
        let j : Joins o (frame_bytes f) f.len p = d.0 in
        let r : OpenMessage = record { sequence = bench_sequence (frame_bytes f); announced = size o (frame_bytes f); index = at o + 1; bytes = had o ++ drop (head o) (frame_bytes f) } in
        let w : length (had o ++ drop (head o) (frame_bytes f)) < size o (frame_bytes f) = subst (λ (q : OpenMessage). length q.bytes < q.announced) j.is d.1 in
        waits_sent f fs mine small j.full o fair j.here j.follows ms w
        (rest (n + 1) (some r) (fair_next o f.«data» fair j.follows w) ms (subst (λ (q : OpenMessage). messages_from source pgn (n + 1) (some q) fs ≡ gives ms) j.is e))
    outcome_sent (whole m) d e =
        let b : (later : List BenchMessage) × (messages_from source pgn (n + 1) none fs ≡ gives later) × (ms ≡ m ∷ later) = before_sent m (messages_from source pgn (n + 1) none fs) e in
        whole_sent f fs mine small d.full o fair d.here d.follows ms b.0 d.reached d.padded (b.2 ∙ ap (λ (q : BenchMessage). q ∷ b.0) d.is) (rest (n + 1) none tt b.0 b.1)

  -- a frame that is skipped is none of them
  skipped_sent : (f : Frame) (fs : List Frame) → is_other source pgn f.id ≡ true → (o : Option OpenMessage) (ms : List BenchMessage) → Sent o fs ms → Sent o (f ∷ fs) ms
  skipped_sent f fs h none ms d = ap (under id) (passed source pgn f fs h) ∙ d
  skipped_sent f fs h (some p) ms d =
      record { m = d.m; later = d.later; all = d.all; same_sequence = d.same_sequence; same_size = d.same_size; starts = d.starts; frames = ap (under id) (passed source pgn f fs h) ∙ d.frames }

  row_sent : (fs : List Frame) → AreBytes fs → Rest fs
  unfolding messages_from end_of own_frames under split_all
  row_sent [] bytes n none fair ms e = let z : ms ≡ [] = cc in ap (split_all id) (sym z)
  row_sent [] bytes n (some p) fair ms e = let z : ◌≡◌ {A = ℕ} 0 1 = cc in absurd (omega arith)
  row_sent (f ∷ fs) bytes n o fair ms e =
      tested (is_other source pgn f.id)
      (λ h. skipped_sent f fs h o ms (row_sent fs bytes.1 (n + 1) o fair ms (when_true _ _ h refl ∙ e)))
      (λ h. outcome_sent f fs (row_sent fs bytes.1) h (bytes.0 0) n o fair ms (outcome_of n o (frame_bytes f) f.len) (frame_says n o (frame_bytes f) f.len) (when_false _ _ h refl ∙ e))

-- ---- the splitter takes each of the messages
module _ (source pgn : ℕ) where
  abbrev RestFits : List Frame → Type 0
  RestFits fs = (n : ℕ) (o : Option OpenMessage) → Fair o → (ms : List BenchMessage) → messages_from source pgn n o fs ≡ gives ms → AreSplit ms

  size_fits : (o : Option OpenMessage) (bs : List ℕ) → Fair o → SameSequence o bs → (1 ≤ size o bs) × (size o bs ≤ 223)
  size_fits none bs fair follows = follows
  size_fits (some p) bs fair follows = (let h : length p.bytes < p.announced = fair.2 in omega arith, fair.3)

  byte_sequence : (d : List ℕ) → get_or d 0 0 < 256 → bench_sequence (eight d) ≤ 7
  unfolding eight
  byte_sequence d h = omega arith

  module _ (f : Frame) (fs : List Frame) (rest : RestFits fs) (small : get_or f.«data» 0 0 < 256) (n : ℕ) (o : Option OpenMessage) (fair : Fair o) (ms : List BenchMessage) where
    before_fits : (m : BenchMessage) (x : Answer (List BenchMessage)) → before m x ≡ gives ms → (m.sequence ≤ 7) × (1 ≤ length m.payload) × (length m.payload ≤ 223) → ((later : List BenchMessage) → x ≡ gives later → AreSplit later) → AreSplit ms
    unfolding before
    before_fits m (refuses k vs) e h g = let z : ◌≡◌ {A = ℕ} 0 1 = cc in absurd (omega arith)
    before_fits m (gives later) e h g = subst AreSplit (let z : m ∷ later ≡ ms = cc in z) (h.0, h.1, h.2, g later refl)

    whole_fits : (m : BenchMessage) → Ends o (frame_bytes f) f.len m → (m.sequence ≤ 7) × (1 ≤ length m.payload) × (length m.payload ≤ 223)
    whole_fits m d =
        let a : (1 ≤ size o (frame_bytes f)) × (size o (frame_bytes f) ≤ 223) = size_fits o (frame_bytes f) fair d.follows in
        let l : length (take (size o (frame_bytes f)) (had o ++ drop (head o) (frame_bytes f))) ≡ size o (frame_bytes f) = length-take-le (size o (frame_bytes f)) (had o ++ drop (head o) (frame_bytes f)) d.reached in
        subst (λ (q : BenchMessage). (q.sequence ≤ 7) × (1 ≤ length q.payload) × (length q.payload ≤ 223)) (sym d.is) (byte_sequence f.«data» small, rw l a.0, rw l a.1)

    outcome_fits : (x : FrameOutcome) → Says o (frame_bytes f) f.len x → then_of x (λ o'. messages_from source pgn (n + 1) o' fs) ≡ gives ms → AreSplit ms
    unfolding then_of
    outcome_fits (refused k vs) d e = let z : ◌≡◌ {A = ℕ} 0 1 = cc in absurd (omega arith)
    outcome_fits (waits p) d e =
        let j : Joins o (frame_bytes f) f.len p = d.0 in
        let w : length (had o ++ drop (head o) (frame_bytes f)) < size o (frame_bytes f) = subst (λ (q : OpenMessage). length q.bytes < q.announced) j.is d.1 in
        rest (n + 1) (some p) (subst (λ (q : OpenMessage). Fair (some q)) (sym j.is) (fair_next 0 source pgn o f.«data» fair j.follows w)) ms e
    outcome_fits (whole m) d e = before_fits m (messages_from source pgn (n + 1) none fs) e (whole_fits m d) (rest (n + 1) none tt)

  row_fits : (fs : List Frame) → AreBytes fs → RestFits fs
  unfolding messages_from end_of
  row_fits [] bytes n none fair ms e = subst AreSplit (let z : [] ≡ ms = cc in z) tt
  row_fits [] bytes n (some p) fair ms e = let z : ◌≡◌ {A = ℕ} 0 1 = cc in absurd (omega arith)
  row_fits (f ∷ fs) bytes n o fair ms e =
      tested (is_other source pgn f.id)
      (λ h. row_fits fs bytes.1 (n + 1) o fair ms (when_true _ _ h refl ∙ e))
      (λ h. outcome_fits f fs (row_fits fs bytes.1) (bytes.0 0) n o fair ms (outcome_of n o (frame_bytes f) f.len) (frame_says n o (frame_bytes f) f.len) (when_false _ _ h refl ∙ e))

-- with any one identifier in place of their own, the frames of that source and PGN are the splitter's frames of the messages, and the splitter takes those
pub accepted : (fs : List Frame) (source pgn : ℕ) → AreBytes fs → (ms : List BenchMessage) → messages_of fs source pgn ≡ gives ms → AreSplit ms × ((id : ℕ) → under id (own_frames source pgn fs) ≡ split_all id ms)
accepted fs source pgn bytes ms e = (row_fits source pgn fs bytes 0 none tt ms e, λ id. row_sent id source pgn fs bytes 0 none tt ms e)
