-- What the splitter lays out, strict reassembly reads back.
--     returned     a row whose frames of one source and PGN are the splitter's frames of some messages gives those messages
--     read_back    the splitter's frames of one payload of 1 to 223 bytes, with any identifier and a sequence up to 7, give that one message
--     delivered    and it is delivered where the identifier is below 2^29 and the list and the arena have room
-- Assumes nothing.
use Prim.Native.Nat.{ℕ, zero, suc, ◌+◌, ◌-◌, ◌*◌, ◌/◌, ◌%◌, ◌<◌, ◌≤◌}
use mathlib.Core.Bool.{true, false}
use mathlib.Core.List.{List, [], ◌∷◌, ◌++◌, append-nil}
use mathlib.Core.Option.{Option, none, some}
use mathlib.Core.Path.{◌≡◌, refl, sym, ap, ◌∙◌}
use native.Mathlib.Numerals.{add-one}
use native.Mathlib.Omega.{arith}
use lib.ListN.{length, get_or, take, drop, length-append, length-drop, take-append-drop}
use lib.Seq.{take_all, take-add, take-append-add, drop-append-add, length-take-le}
use Rattle.base.specs.Answer.{gives}
use Rattle.base.specs.Pick.{pick}
use Rattle.base.specs.Lists.{fill}
use Rattle.base.proofs.Fills.{length_fill, take_fill}
use Rattle.base.proofs.Cases.{tested, less?, when_eq, when_ne, when_lt, when_ge, when_gt, when_true, when_false}
use Rattle.splitter.specs.Frames.{is_wide, frame_bytes}
use Rattle.oracle.specs.Ids.{bench_source, bench_pgn, is_other}
use Rattle.oracle.specs.Strict.{odd_of, BenchMessage, OpenMessage, FrameOutcome, waits, whole, collected_at, first_frame, later_frame, outcome_of, before, then_of, end_of, messages_from, messages_of, first_wide, wide_first, payloads_of, room_for, delivered_to}
use Rattle.splitter.specs.Bytes.{split_bytes, split_frame, count_of}
use Rattle.splitter.specs.Split.{split_frames_from, split_frames}
use Rattle.round_trip.specs.Sent.{own_frames, under, split_all, AreSplit}
use Rattle.splitter.specs.declared.Frame.{Frame}
use Rattle.splitter.proofs.FrameLaws.{eight_same}
use Rattle.splitter.proofs.SplitLaws.{bytes_eight}
use Rattle.round_trip.proofs.Accepted.{owned, passed}

-- ---- a frame's bytes among the filling
-- after the bytes the filling is all 0xFF
odd_fill : (n : ℕ) (l : List ℕ) → odd_of (drop (length l) (fill n l)) ≡ 255
unfolding odd_of fill pick
odd_fill zero [] = refl
odd_fill zero (b ∷ l) = refl
odd_fill (suc n) [] = odd_fill n []
odd_fill (suc n) (b ∷ l) = odd_fill n l

-- a frame of r bytes after t bytes of a message
module _ (n q : ℕ) (p : List ℕ) (t r ix : ℕ) (sent : t ≤ length p) where
  abbrev l : List ℕ
  l = take t p ++ fill r (drop t p)

  abbrev left : List ℕ
  left = drop t p

  abbrev had_so : length (take t p) ≡ t
  had_so = length-take-le t p sent

  length_left : length (drop t p) ≡ length p - t
  length_left = length-drop t p

  length_l : length (take t p ++ fill r (drop t p)) ≡ t + r
  length_l = length-append (take t p) (fill r (drop t p)) ∙ ap (λ (k : ℕ). k + length (fill r (drop t p))) had_so ∙ ap (λ (k : ℕ). t + k) (length_fill r (drop t p))

  goes_on : t + r < length p → collected_at n (record { sequence = q; announced = length p; index = ix; bytes = take t p ++ fill r (drop t p) }) ≡ waits (record { sequence = q; announced = length p; index = ix; bytes = take (t + r) p })
  unfolding collected_at
  goes_on h =
      let f : fill r left ≡ take r left = sym (take_all r (fill r left) (rw length_fill (omega arith))) ∙ take_fill r r left (omega arith) (omega (arith, length_left)) in
      let e : take t p ++ fill r left ≡ take (t + r) p = ap (λ (x : List ℕ). take t p ++ x) f ∙ sym (take-add t r p) in
      sym (when_lt _ _ {a = length l} {b = length p} (omega (arith, length_l)) refl) ∙ ap (λ (x : List ℕ). waits (record { sequence = q; announced = length p; index = ix; bytes = x })) e

  ends_here : length p ≤ t + r → collected_at n (record { sequence = q; announced = length p; index = ix; bytes = take t p ++ fill r (drop t p) }) ≡ whole (record { sequence = q; payload = p })
  unfolding collected_at
  ends_here h =
      let s : length p ≡ length (take t p) + length left = omega (arith, had_so, length_left) in
      let d : drop (length p) l ≡ drop (length left) (fill r left) = ap (λ (k : ℕ). drop k l) s ∙ drop-append-add (take t p) (fill r left) (length left) in
      let o : odd_of (drop (length p) l) ≡ 255 = ap odd_of d ∙ odd_fill r left in
      let e : take (length p) l ≡ p = ap (λ (k : ℕ). take k l) s ∙ take-append-add (take t p) (fill r left) (length left) ∙ ap (λ (x : List ℕ). take t p ++ x) (take_fill (length left) r left (omega (arith, length_left)) (omega arith) ∙ take_all (length left) left (omega arith)) ∙ take-append-drop t p in
      sym (when_ge _ _ {a = length l} {b = length p} (omega (arith, length_l)) (when_eq _ _ o refl)) ∙ ap (λ (x : List ℕ). whole (record { sequence = q; payload = x })) e

-- ---- byte 0 tells sequence and index
told_index : (q k : ℕ) → q ≤ 7 → k ≤ 31 → (q % 8 * 32 + k % 32) % 32 ≡ k
told_index q k h g =
    let a : q % 8 ≡ q = omega arith in
    let b : k % 32 ≡ k = omega arith in
    rw (a, b) (omega arith)

told_sequence : (q k : ℕ) → q ≤ 7 → k ≤ 31 → (q % 8 * 32 + k % 32) / 32 ≡ q
told_sequence q k h g =
    let a : q % 8 ≡ q = omega arith in
    let b : k % 32 ≡ k = omega arith in
    rw (a, b) (omega arith)

-- ---- what strict reassembly makes of the splitter's frame k
abbrev open_at : BenchMessage → ℕ → OpenMessage
open_at m k = record { sequence = m.sequence; announced = length m.payload; index = k; bytes = take (7 * k - 1) m.payload }

module _ (n : ℕ) (m : BenchMessage) (sq : m.sequence ≤ 7) (some_bytes : 1 ≤ length m.payload) (most : length m.payload ≤ 223) where
  abbrev p : List ℕ
  p = m.payload

  abbrev first : List ℕ
  first = split_bytes m.sequence p 0

  first_bytes_lem : split_bytes m.sequence m.payload 0 ≡ (m.sequence % 8 * 32 + 0 % 32) ∷ length p ∷ fill 6 p
  unfolding split_bytes pick
  first_bytes_lem = refl

  first_collects : outcome_of n none (split_bytes m.sequence m.payload 0) 8 ≡ collected_at n (record { sequence = m.sequence; announced = length m.payload; index = 1; bytes = take 0 m.payload ++ fill 6 (drop 0 m.payload) })
  unfolding outcome_of first_frame
  first_collects =
      let z : (m.sequence % 8 * 32 + 0 % 32) % 32 ≡ 0 = told_index m.sequence 0 sq (omega arith) in
      let q : (m.sequence % 8 * 32 + 0 % 32) / 32 ≡ m.sequence = told_sequence m.sequence 0 sq (omega arith) in
      rw first_bytes_lem
      (sym (when_eq _ _ {a = 8} {b = 8} refl (when_eq _ _ z (when_ne _ _ {a = length p} {b = 0} (λ e. omega arith) (when_ge _ _ {a = 223} {b = length p} most refl))))
      ∙ ap (λ (x : ℕ). collected_at n (record { sequence = x; announced = length p; index = 1; bytes = fill 6 p })) q)

  first_waits : 6 < length m.payload → outcome_of n none (split_bytes m.sequence m.payload 0) 8 ≡ waits (open_at m 1)
  first_waits h = first_collects ∙ goes_on n m.sequence p 0 6 1 (omega arith) h

  first_whole : length m.payload ≤ 6 → outcome_of n none (split_bytes m.sequence m.payload 0) 8 ≡ whole m
  first_whole h = first_collects ∙ ends_here n m.sequence p 0 6 1 (omega arith) h

  module _ (k : ℕ) (lo : 1 ≤ k) (hi : 7 * k - 1 < length m.payload) where
    later_bytes : split_bytes m.sequence m.payload k ≡ (m.sequence % 8 * 32 + k % 32) ∷ fill 7 (drop (7 * k - 1) m.payload)
    unfolding split_bytes
    later_bytes = sym (ap (λ (x : List ℕ). (m.sequence % 8 * 32 + k % 32) ∷ x) (when_ne _ _ {a = k} {b = 0} (λ e. omega arith) refl))

    later_collects : outcome_of n (some (open_at m k)) (split_bytes m.sequence m.payload k) 8 ≡ collected_at n (record { sequence = m.sequence; announced = length m.payload; index = k + 1; bytes = take (7 * k - 1) m.payload ++ fill 7 (drop (7 * k - 1) m.payload) })
    unfolding outcome_of later_frame
    later_collects =
        let z : (m.sequence % 8 * 32 + k % 32) % 32 ≡ k = told_index m.sequence k sq (omega arith) in
        let q : (m.sequence % 8 * 32 + k % 32) / 32 ≡ m.sequence = told_sequence m.sequence k sq (omega arith) in
        rw later_bytes
        (sym (when_eq _ _ {a = 8} {b = 8} refl (when_ne _ _ {a = (m.sequence % 8 * 32 + k % 32) % 32} {b = 0} (λ e. let x : k ≡ 0 = sym z ∙ e in omega arith) (when_eq _ _ q (when_eq _ _ z refl)))))

    later_waits : 7 * (k + 1) - 1 < length m.payload → outcome_of n (some (open_at m k)) (split_bytes m.sequence m.payload k) 8 ≡ waits (open_at m (k + 1))
    later_waits h =
        let e : 7 * k - 1 + 7 ≡ 7 * (k + 1) - 1 = omega arith in
        later_collects ∙ goes_on n m.sequence p (7 * k - 1) 7 (k + 1) (omega arith) (omega arith)
        ∙ ap (λ (j : ℕ). waits (record { sequence = m.sequence; announced = length p; index = k + 1; bytes = take j p })) e

    later_whole : length m.payload ≤ 7 * (k + 1) - 1 → outcome_of n (some (open_at m k)) (split_bytes m.sequence m.payload k) 8 ≡ whole m
    later_whole h = later_collects ∙ ends_here n m.sequence p (7 * k - 1) 7 (k + 1) (omega arith) (omega arith)

-- ---- the row
module _ (id source pgn : ℕ) where
  -- with no message open, and while message m waits for its frame k
  record Returns (fs : List Frame) : Type 0 where
    shut : (n : ℕ) (ms : List BenchMessage) → AreSplit ms → under id (own_frames source pgn fs) ≡ split_all id ms → messages_from source pgn n none fs ≡ gives ms
    going : (n : ℕ) (m : BenchMessage) (k : ℕ) (later : List BenchMessage) → AreSplit (m ∷ later) → 1 ≤ k → 7 * k - 1 < length m.payload
        → under id (own_frames source pgn fs) ≡ split_frames_from id m.sequence m.payload k (count_of (length m.payload) - k) ++ split_all id later → messages_from source pgn n (some (open_at m k)) fs ≡ gives (m ∷ later)

  module _ (f : Frame) (fs : List Frame) where
    abbrev body : Frame
    body = record { id = id; «data» = frame_bytes f; len = f.len }

    skip_from : is_other source pgn f.id ≡ true → (n : ℕ) (o : Option OpenMessage) → messages_from source pgn n o (f ∷ fs) ≡ messages_from source pgn (n + 1) o fs
    unfolding messages_from
    skip_from h n o = sym (when_true _ _ h refl)

    module _ (mine : is_other source pgn f.id ≡ false) where
      take_from : (n : ℕ) (o : Option OpenMessage) {x : FrameOutcome} → outcome_of n o (frame_bytes f) f.len ≡ x → messages_from source pgn n o (f ∷ fs) ≡ then_of x (λ o'. messages_from source pgn (n + 1) o' fs)
      unfolding messages_from
      take_from n o e = sym (when_false _ _ mine refl) ∙ ap (λ (y : FrameOutcome). then_of y (λ o'. messages_from source pgn (n + 1) o' fs)) e

      -- the frame that comes, and the frames after it
      module _ (q : ℕ) (p : List ℕ) (k : ℕ) (rest : List Frame) (e : under id (own_frames source pgn (f ∷ fs)) ≡ split_frame id q p k ∷ rest) where
        is_it : record { id = id; «data» = frame_bytes f; len = f.len } ∷ under id (own_frames source pgn fs) ≡ split_frame id q p k ∷ rest
        is_it = sym (owned id source pgn f fs mine) ∙ e

        its_bytes : frame_bytes f ≡ split_bytes q p k
        unfolding split_frame
        its_bytes = ap (λ (l : List Frame). (get_or l 0 body).«data») is_it

        its_length_lem : f.len ≡ 8
        unfolding split_frame
        its_length_lem = ap (λ (l : List Frame). (get_or l 0 body).len) is_it

        after_it : under id (own_frames source pgn fs) ≡ rest
        after_it = ap (drop 1) is_it

        its_outcome : (n : ℕ) (o : Option OpenMessage) → outcome_of n o (frame_bytes f) f.len ≡ outcome_of n o (split_bytes q p k) 8
        its_outcome n o = rw (its_bytes, its_length_lem)

      module _ (back : Returns fs) (n : ℕ) (m : BenchMessage) (later : List BenchMessage) (fits : AreSplit (m ∷ later)) where
        one_whole : (o : Option OpenMessage) → outcome_of n o (frame_bytes f) f.len ≡ whole m → under id (own_frames source pgn fs) ≡ split_all id later → messages_from source pgn n o (f ∷ fs) ≡ gives (m ∷ later)
        unfolding then_of before
        one_whole o e g = take_from n o e ∙ ap (before m) (back.shut (n + 1) later fits.3 g)

        one_more : (o : Option OpenMessage) (k : ℕ) → 1 ≤ k → 7 * k - 1 < length m.payload → outcome_of n o (frame_bytes f) f.len ≡ waits (open_at m k)
            → under id (own_frames source pgn fs) ≡ split_frames_from id m.sequence m.payload k (count_of (length m.payload) - k) ++ split_all id later → messages_from source pgn n o (f ∷ fs) ≡ gives (m ∷ later)
        unfolding then_of
        one_more o k lo hi e g = take_from n o e ∙ back.going (n + 1) m k later fits lo hi g

        first_back : under id (own_frames source pgn (f ∷ fs)) ≡ split_all id (m ∷ later) → messages_from source pgn n none (f ∷ fs) ≡ gives (m ∷ later)
        unfolding split_all
        first_back e =
            let p : List ℕ = m.payload in
            let c : ℕ = length m.payload / 7 in
            let e' : under id (own_frames source pgn (f ∷ fs)) ≡ split_frame id m.sequence p 0 ∷ (split_frames_from id m.sequence p 1 c ++ split_all id later) = e ∙ ap (λ (j : ℕ). split_frames_from id m.sequence p 0 j ++ split_all id later) (add-one c) in
            let x : outcome_of n none (frame_bytes f) f.len ≡ outcome_of n none (split_bytes m.sequence p 0) 8 = its_outcome m.sequence p 0 (split_frames_from id m.sequence p 1 c ++ split_all id later) e' n none in
            let g : under id (own_frames source pgn fs) ≡ split_frames_from id m.sequence p 1 c ++ split_all id later = after_it m.sequence p 0 (split_frames_from id m.sequence p 1 c ++ split_all id later) e' in
            less? 6 (length m.payload)
            (λ h.
            let z : length m.payload / 7 ≡ count_of (length m.payload) - 1 = omega arith in
            one_more none 1 (omega arith) h (x ∙ first_waits n m fits.0 fits.1 fits.2 h) (g ∙ ap (λ (j : ℕ). split_frames_from id m.sequence p 1 j ++ split_all id later) z))
            (λ h.
            let z : length m.payload / 7 ≡ 0 = omega arith in
            one_whole none (x ∙ first_whole n m fits.0 fits.1 fits.2 h) (g ∙ ap (λ (j : ℕ). split_frames_from id m.sequence p 1 j ++ split_all id later) z))

        later_back : (k : ℕ) → 1 ≤ k → 7 * k - 1 < length m.payload → under id (own_frames source pgn (f ∷ fs)) ≡ split_frames_from id m.sequence m.payload k (count_of (length m.payload) - k) ++ split_all id later
            → messages_from source pgn n (some (open_at m k)) (f ∷ fs) ≡ gives (m ∷ later)
        later_back k lo hi e =
            let p : List ℕ = m.payload in
            let c : ℕ = count_of (length m.payload) - (k + 1) in
            let s : count_of (length m.payload) - k ≡ suc (count_of (length m.payload) - (k + 1)) = omega arith in
            let e' : under id (own_frames source pgn (f ∷ fs)) ≡ split_frame id m.sequence p k ∷ (split_frames_from id m.sequence p (suc k) c ++ split_all id later) = e ∙ ap (λ (j : ℕ). split_frames_from id m.sequence p k j ++ split_all id later) s in
            let x : outcome_of n (some (open_at m k)) (frame_bytes f) f.len ≡ outcome_of n (some (open_at m k)) (split_bytes m.sequence p k) 8 = its_outcome m.sequence p k (split_frames_from id m.sequence p (suc k) c ++ split_all id later) e' n (some (open_at m k)) in
            let g : under id (own_frames source pgn fs) ≡ split_frames_from id m.sequence p (suc k) c ++ split_all id later = after_it m.sequence p k (split_frames_from id m.sequence p (suc k) c ++ split_all id later) e' in
            less? (7 * (k + 1) - 1) (length m.payload)
            (λ h. one_more (some (open_at m k)) (k + 1) (omega arith) h (x ∙ later_waits n m fits.0 fits.1 fits.2 k lo hi h) (g ∙ ap (λ (j : ℕ). split_frames_from id m.sequence p j c ++ split_all id later) (sym (add-one k))))
            (λ h.
            let z : count_of (length m.payload) - (k + 1) ≡ 0 = omega arith in
            one_whole (some (open_at m k)) (x ∙ later_whole n m fits.0 fits.1 fits.2 k lo hi h) (g ∙ ap (λ (j : ℕ). split_frames_from id m.sequence p (suc k) j ++ split_all id later) z))

  none_left : (q : ℕ) (p : List ℕ) (k c : ℕ) (l : List Frame) → k < c → [] ≡ split_frames_from id q p k (c - k) ++ l → ⊥
  none_left q p k c l h e =
      let s : c - k ≡ suc (c - (k + 1)) = omega arith in
      let z : 0 ≡ suc (length (split_frames_from id q p (suc k) (c - (k + 1)) ++ l)) = ap length (e ∙ ap (λ (j : ℕ). split_frames_from id q p k j ++ l) s) in
      omega arith

  end_shut : (n : ℕ) (ms : List BenchMessage) → [] ≡ split_all id ms → messages_from source pgn n none [] ≡ gives ms
  unfolding messages_from end_of split_all
  end_shut n [] e = refl
  end_shut n (m ∷ ms) e = let z : count_of (length m.payload) - 0 ≡ count_of (length m.payload) = omega arith in absurd (none_left m.sequence m.payload 0 (count_of (length m.payload)) (split_all id ms) (omega arith) (e ∙ ap (λ (j : ℕ). split_frames_from id m.sequence m.payload 0 j ++ split_all id ms) (sym z)))

  row_shut : (f : Frame) (fs : List Frame) → Returns fs → is_other source pgn f.id ≡ false → (n : ℕ) (ms : List BenchMessage) → AreSplit ms → under id (own_frames source pgn (f ∷ fs)) ≡ split_all id ms → messages_from source pgn n none (f ∷ fs) ≡ gives ms
  unfolding split_all
  row_shut f fs back h n [] fits e = let z : suc (length (under id (own_frames source pgn fs))) ≡ 0 = ap length (sym (owned id source pgn f fs h) ∙ e) in absurd (omega arith)
  row_shut f fs back h n (m ∷ ms) fits e = first_back f fs h back n m ms fits e

  returns : (fs : List Frame) → Returns fs
  unfolding own_frames under
  returns [] = record {
    shut = λ n ms fits e. end_shut n ms e;
    going = λ n m k later fits lo hi e. absurd (none_left m.sequence m.payload k (count_of (length m.payload)) (split_all id later) (omega arith) e);
  }
  returns (f ∷ fs) = record {
    shut = λ n ms fits e.
        tested (is_other source pgn f.id)
        (λ h. skip_from f fs h n none ∙ (returns fs).shut (n + 1) ms fits (sym (ap (under id) (passed source pgn f fs h)) ∙ e))
        (λ h. row_shut f fs (returns fs) h n ms fits e);
    going = λ n m k later fits lo hi e.
        tested (is_other source pgn f.id)
        (λ h. skip_from f fs h n (some (open_at m k)) ∙ (returns fs).going (n + 1) m k later fits lo hi (sym (ap (under id) (passed source pgn f fs h)) ∙ e))
        (λ h. later_back f fs h (returns fs) n m later fits k lo hi e);
  }

pub returned : (fs : List Frame) (source pgn : ℕ) (ms : List BenchMessage) → AreSplit ms → (id : ℕ) → under id (own_frames source pgn fs) ≡ split_all id ms → messages_of fs source pgn ≡ gives ms
returned fs source pgn ms fits id e = (returns id source pgn fs).shut 0 ms fits e

-- ---- the splitter's frames of one payload, as they are
-- a frame is its own source's and PGN's
mine : (id : ℕ) → is_other (bench_source id) (bench_pgn id) id ≡ false
unfolding is_other
mine id = sym (when_eq _ _ {a = id % 256} refl (when_eq _ _ {a = bench_pgn id} refl refl))

frames_under : (id q : ℕ) (p : List ℕ) (n k : ℕ) → under id (own_frames (bench_source id) (bench_pgn id) (split_frames_from id q p k n)) ≡ split_frames_from id q p k n
unfolding under own_frames split_frame
frames_under id q p zero k = refl
frames_under id q p (suc n) k =
    owned id (bench_source id) (bench_pgn id) (split_frame id q p k) (split_frames_from id q p (suc k) n) (mine id)
    ∙ ap (λ (bs : List ℕ). record { id = id; «data» = bs; len = 8 } ∷ under id (own_frames (bench_source id) (bench_pgn id) (split_frames_from id q p (suc k) n))) (eight_same (split_bytes q p k) (bytes_eight q p k))
    ∙ ap (λ (l : List Frame). split_frame id q p k ∷ l) (frames_under id q p n (suc k))

-- none of them is too wide, where the identifier is not
frames_narrow : (id q : ℕ) (p : List ℕ) → id < 0x2000_0000 → (n k i : ℕ) → first_wide i (split_frames_from id q p k n) ≡ none
unfolding first_wide split_frame is_wide
frames_narrow id q p h zero k i = refl
frames_narrow id q p h (suc n) k i = sym (when_gt _ _ h (sym (frames_narrow id q p h n (suc k) (i + 1))))

module _ (id sequence : ℕ) (p : List ℕ) (sq : sequence ≤ 7) (some_bytes : 1 ≤ length p) (most : length p ≤ 223) where
  abbrev pub sent : BenchMessage
  sent = record { sequence = sequence; payload = p }

  pub read_back : messages_of (split_frames id sequence p) (bench_source id) (bench_pgn id) ≡ gives (sent ∷ [])
  unfolding split_all
  read_back = returned (split_frames id sequence p) (bench_source id) (bench_pgn id) (sent ∷ []) (sq, some_bytes, most, tt) id (frames_under id sequence p (count_of (length p)) 0 ∙ sym (append-nil (split_frames id sequence p)))

  pub delivered : id < 0x2000_0000 → (list arena : List ℕ) → 3 ≤ length list → length p ≤ length arena → delivered_to list arena (split_frames id sequence p) (bench_source id) (bench_pgn id) ≡ gives (sent ∷ [])
  unfolding delivered_to wide_first room_for payloads_of
  delivered narrow list arena h k =
      ap (λ (x : Option ℕ). wide_first x (room_for (length list) (length arena) (messages_of (split_frames id sequence p) (bench_source id) (bench_pgn id)))) (frames_narrow id sequence p narrow (count_of (length p)) 0 0)
      ∙ ap (room_for (length list) (length arena)) read_back
      ∙ sym (when_ge _ _ {a = length list / 3} {b = 1} (omega arith) (when_ge _ _ {a = length arena} {b = length (p ++ [])} (rw append-nil k) refl))
