-- What the transmit check's code knows after some frames tells what specs/Check says of them.
--     claims-tell   the claim        bad-tells   the first bad message        check-tells   the answer
-- Assumes nothing.
use Prim.Native.Nat.{ℕ, ◌+◌, ◌-◌, ◌%◌, ◌<◌, ◌≤◌}
use mathlib.Core.Bool.{Bool, true, false}
use mathlib.Core.List.{List, [], ◌∷◌, ◌++◌}
use mathlib.Core.Option.{Option, none, some}
use mathlib.Core.Path.{◌≡◌, refl, sym, ap, ◌∙◌, subst}
use native.Mathlib.Nat.{zero-add}
use native.Mathlib.Omega.{arith}
use borrow.Author.Tests.{eq-eqb, ne_eqb}
use lib.Dec.{eqb, ltb}
use lib.ListN.{length, get_or, take, drop, length-append, length-take}
use lib.Seq.{sets, sets-eq, length-sets, take-append_seam, get_or-take}
use Rattle.base.specs.Answer.{Answer, gives, refuses}
use Rattle.base.specs.Pick.{pick}
use Rattle.base.proofs.Cases.{tested, less?, same?, pick_all, when_ne, when_lt, when_ge, when_true, when_false}
use Rattle.splitter.specs.Frames.{is_wide, frame_bytes}
use Rattle.oracle.specs.Ids.{is_other}
use Rattle.oracle.specs.inner.Tx.{Checked, claim_after, message_of, is_bad, buffer_of, bad_of, last_of, is_unclaimed, tx_of, tx_all, tx_start, over_of, faulty_of, ran_of, checked_of}
use Rattle.oracle.specs.declared.bench_ids.Claim.{Claim}
use Rattle.oracle.specs.declared.bench_ids.Claim.TheVariants.{Awaited, Made, Missed}
use Rattle.oracle.specs.Strict.{bench_sequence, BenchMessage, OpenMessage, FrameOutcome, refused, waits, whole, collected_at, first_frame, later_frame, outcome_of, before, then_of, end_of, messages_from, messages_of, first_wide, wide_first}
use Rattle.oracle.specs.Check.{follows, each_from, is_claimed, sent_of, transmission_of, check_tx_of, ChecksTx, hours_of, off_from}
use Rattle.oracle.specs.Numbers.{fault_number, fault_values, of_checked}
use Rattle.oracle.specs.inner.Scan.{skipped, taken, is_faulty, is_over, step_on, scan_frame, scan_of, start_of, added_of}
use Rattle.splitter.specs.declared.Frame.{Frame}
use Rattle.oracle.specs.declared.Scan.{Scan}
use Rattle.oracle.specs.declared.Tx.{Tx}
use Rattle.std.specs.Prelude.{Some, None, Ok, Err}
use Rattle.oracle.specs.inner.Frames.{Standing}
use Rattle.oracle.specs.declared.Fault.TheVariants.{TooWide}
use Rattle.oracle.specs.declared.CheckError.TheVariants.{NoCount, Over, NoClaim, Faulty, Open, Count, Size, Hours, Pattern, Sequence}
use Rattle.splitter.proofs.FrameLaws.{eight_long}
use Rattle.oracle.proofs.Grows.{added_end}
use Rattle.oracle.proofs.FirstWide.{AllNarrow, all_narrow, wide_found, wide_none}
use Rattle.oracle.proofs.Bridge.{Shows, Knows, had, Does, Waits, Whole, frame_does, Stops, by_fault, by_end, Tells, row_tells, skips, takes, adds, skip_adds, skip_knows}

-- ---- what a frame does not change
source_kept : (s : Scan) (f : Frame) → (scan_frame s f).source ≡ s.source
unfolding step_on taken
source_kept s f =
    let P : Scan → Type 0 = λ (t : Scan). t.source ≡ s.source in
    pick_all P _ refl (pick_all P _ refl (pick_all P _ refl (pick_all P _ refl (pick_all P _ refl refl))))

scan_kept : (fs : List Frame) (t : Tx) → (tx_all t fs).scan ≡ scan_of t.scan fs
unfolding tx_of
scan_kept [] t = refl
scan_kept (f ∷ fs) t = scan_kept fs (tx_of t f)

base_kept : (fs : List Frame) (t : Tx) → (tx_all t fs).base ≡ t.base
unfolding tx_of
base_kept [] t = refl
base_kept (f ∷ fs) t = base_kept fs (tx_of t f)

-- ---- the claim: what it is after the rest of a row, of which it is known whether it has one
abbrev lacking : Claim → Bool → Bool
lacking Awaited c = pick c false true
lacking Made c = false
lacking Missed c = true

by_tests : (x y z c : Bool) → lacking (pick x (pick y Awaited (pick z Made Awaited)) Missed) c ≡ lacking Awaited (pick x (pick y c (pick z true c)) false)
unfolding pick
by_tests false y z c = refl
by_tests true true z c = refl
by_tests true false true true = refl
by_tests true false true false = refl
by_tests true false false c = refl

-- by the tests of one frame: none of 127489, none of 60928, of length 8, and what the rest tells
claim_tests : (k : Claim) (source id len : ℕ) (c : Bool) → lacking (claim_after k source id len) c ≡ lacking k (pick (is_other source 127489 id) (pick (is_other source 60928 id) c (pick (eqb len 8) true c)) false)
unfolding claim_after
claim_tests Awaited source id len c = by_tests (is_other source 127489 id) (is_other source 60928 id) (eqb len 8) c
claim_tests Made source id len c = refl
claim_tests Missed source id len c = refl

none_left : (k : Claim) → is_unclaimed k ≡ lacking k false
unfolding pick
none_left Awaited = refl
none_left Made = refl
none_left Missed = refl

pub claims_tell : (fs : List Frame) (t : Tx) → is_unclaimed (tx_all t fs).claim ≡ lacking t.claim (is_claimed t.scan.source fs)
unfolding is_claimed tx_of
claims_tell [] t = none_left t.claim
claims_tell (f ∷ fs) t =
    claims_tell fs (tx_of t f)
    ∙ ap (λ (s : ℕ). lacking (tx_of t f).claim (is_claimed s fs)) (source_kept t.scan f)
    ∙ claim_tests t.claim t.scan.source f.id f.len (is_claimed t.scan.source fs)

-- ---- no message is over 223 bytes
abbrev Fits : Option OpenMessage → Type 0
Fits none = Unit {0}
Fits (some o) = o.announced ≤ 223

abbrev FitsIn : FrameOutcome → Type 0
FitsIn (refused k vs) = Unit {0}
FitsIn (waits o) = o.announced ≤ 223
FitsIn (whole m) = length m.payload ≤ 223

collected_fits : (n : ℕ) (o : OpenMessage) → o.announced ≤ 223 → FitsIn (collected_at n o)
unfolding collected_at
collected_fits n o h =
    let l : length (take o.announced o.bytes) ≤ 223 = rw length-take (omega arith) in
    pick_all FitsIn _ h (pick_all FitsIn _ l tt)

outcome_fits : (n : ℕ) (o : Option OpenMessage) (bs : List ℕ) (len : ℕ) → Fits o → FitsIn (outcome_of n o bs len)
unfolding outcome_of first_frame later_frame
outcome_fits n none bs len h =
    pick_all FitsIn _
    (pick_all FitsIn _
    (pick_all FitsIn _ tt
    (less? 223 (get_or bs 1 0)
    (λ x. subst FitsIn (when_lt _ _ x refl) tt)
    (λ x. subst FitsIn (when_ge _ _ {a = 223} {b = get_or bs 1 0} x refl) (collected_fits n (record { sequence = bench_sequence bs; announced = get_or bs 1 0; index = 1; bytes = drop 2 bs }) x))))
    tt)
    tt
outcome_fits n (some o) bs len h =
    pick_all FitsIn _
    (pick_all FitsIn _ tt
    (pick_all FitsIn _
    (pick_all FitsIn _ (collected_fits n (record { sequence = o.sequence; announced = o.announced; index = o.index + 1; bytes = o.bytes ++ drop 1 bs }) h) tt)
    tt))
    tt

-- ---- the buffer starts with what is collected
laid_after : (l q v p : List ℕ) → take (length q) l ≡ q → q ++ v ≡ p → length p ≤ length l → take (length p) (sets l (length q) v) ≡ p
laid_after l q v p eq ep h =
    let n : length q + length v ≡ length p = sym (length-append q v) ∙ ap length ep in
    let e : sets l (length q) v ≡ take (length q) l ++ v ++ drop (length q + length v) l = sets-eq v l (length q) (omega arith) in
    let f : sets l (length q) v ≡ p ++ drop (length q + length v) l = e ∙ ap (λ (x : List ℕ). x ++ v ++ drop (length q + length v) l) eq ∙ ap (λ (x : List ℕ). x ++ drop (length q + length v) l) ep in
    ap (take (length p)) f ∙ take-append_seam p (drop (length q + length v) l)

module _ (t : Tx) (f : Frame) {a : Scan} (ea : scan_frame t.scan f ≡ a) (q p : List ℕ) (starts : take (length q) t.buffer ≡ q) (grows : q ++ added_of t.scan f ≡ p)
    (stands : a.announced - a.missing ≡ length p) (fits : length p ≤ length t.buffer) where
  buffer_at : a.announced - a.missing - (a.total - t.scan.total) ≡ length q
  buffer_at =
      let n : length q + length (added_of t.scan f) ≡ length p = sym (length-append q (added_of t.scan f)) ∙ ap length grows in
      let e : a.total ≡ t.scan.total + length (added_of t.scan f) = sym (ap (λ (u : Scan). u.total) ea) ∙ added_end t.scan f in
      omega arith

  buffer_starts : take (length p) (buffer_of t f) ≡ p
  unfolding buffer_of
  buffer_starts =
      ap (λ (u : Scan). take (length p) (sets t.buffer (u.announced - u.missing - (u.total - t.scan.total)) (added_of t.scan f))) ea
      ∙ ap (λ (n : ℕ). take (length p) (sets t.buffer n (added_of t.scan f))) buffer_at
      ∙ laid_after t.buffer q (added_of t.scan f) p starts grows fits

buffer_long : (t : Tx) (f : Frame) → length (buffer_of t f) ≡ length t.buffer
unfolding buffer_of
buffer_long t f = simp length-sets

-- ---- one message: the code looks at the buffer, which starts with its bytes
-- the sequence of the message before message i
abbrev previous_of : ℕ → ℕ → Option ℕ
previous_of i last = pick (eqb i 0) none (some last)

hours_same : (l p : List ℕ) → take (length p) l ≡ p → length p ≡ 26 → hours_of l ≡ hours_of p
unfolding hours_of
hours_same l p e n =
    let g : (k : ℕ) → k < 26 → get_or l k 0 ≡ get_or p k 0 = λ k h. sym (get_or-take 26 l k 0 h) ∙ ap (λ (x : List ℕ). get_or x k 0) (sym (ap (λ (j : ℕ). take j l) n) ∙ e) in
    rw (g 11 (omega arith), g 12 (omega arith), g 13 (omega arith), g 14 (omega arith))

follow_same : (i last sequence : ℕ) → follows (previous_of i last) sequence ≡ pick (eqb i 0) true (eqb sequence ((last % 8 + 1) % 8))
unfolding follows pick
follow_same i last sequence =
    let e : (last + 1) % 8 ≡ (last % 8 + 1) % 8 = omega arith in
    same? i 0 (λ h. rw (eq-eqb i 0 h)) (λ h. rw (ne_eqb i 0 h, e))

-- where the code tells a fault of message i, or none, the paper tells it, or goes on
module _ (base i last : ℕ) (m : BenchMessage) (ms : List BenchMessage) (l : List ℕ) (starts : take (length m.payload) l ≡ m.payload) where
  abbrev p : List ℕ
  p = m.payload

  abbrev later : Answer ℕ
  later = each_from base (i + 1) (some m.sequence) ms

  abbrev Told : Checked → Answer ℕ → Type 0
  Told y x = x ≡ pick (is_bad y) (of_checked y) later

  -- by the code's five tests, in the paper's order: size, hours, pattern, first, sequence
  tests_tell : (a h o z q : Bool)
      → pick a (pick h (pick o (refuses 36 (i ∷ [])) (pick (pick z true q) later (refuses 37 (i ∷ [])))) (refuses 35 (i ∷ []))) (refuses 34 (i ∷ []))
      ≡ (let y : Checked = pick a (pick h (pick o (Err (Pattern i)) (pick z (Ok tt) (pick q (Ok tt) (Err (Sequence i))))) (Err (Hours i))) (Err (Size i)) in pick (is_bad y) (of_checked y) later)
  unfolding pick of_checked
  tests_tell false h o z q = refl
  tests_tell true false o z q = refl
  tests_tell true true true z q = refl
  tests_tell true true false true q = refl
  tests_tell true true false false true = refl
  tests_tell true true false false false = refl

  abbrev tested_by : Bool → ℕ → List ℕ → Answer ℕ
  tested_by q hours bytes = pick (eqb (length p) 26) (pick (eqb hours (base + i)) (pick (off_from 0 bytes) (refuses 36 (i ∷ [])) (pick q later (refuses 37 (i ∷ [])))) (refuses 35 (i ∷ []))) (refuses 34 (i ∷ []))

  wrong_size : (length p ≡ 26 → ⊥) → each_from base i (previous_of i last) (m ∷ ms) ≡ (let y : Checked = message_of base i last m.sequence (length p) l in pick (is_bad y) (of_checked y) later)
  unfolding each_from message_of pick of_checked
  wrong_size n = rw (ne_eqb (length p) 26 n)

  message_tells : each_from base i (previous_of i last) (m ∷ ms) ≡ (let y : Checked = message_of base i last m.sequence (length p) l in pick (is_bad y) (of_checked y) later)
  unfolding each_from message_of
  message_tells =
      same? (length p) 26
      (λ n.
      let e : take 26 l ≡ p = sym (ap (λ (j : ℕ). take j l) n) ∙ starts in
      let q : Bool = pick (eqb i 0) true (eqb m.sequence ((last % 8 + 1) % 8)) in
      ap (λ (x : Bool). tested_by x (hours_of p) p) (follow_same i last m.sequence)
      ∙ ap (λ (x : ℕ). tested_by q x p) (sym (hours_same l p starts n))
      ∙ ap (tested_by q (hours_of l)) (sym e)
      ∙ tests_tell (eqb (length p) 26) (eqb (hours_of l) (base + i)) (off_from 0 (take 26 l)) (eqb i 0) (eqb m.sequence ((last % 8 + 1) % 8)))
      (λ n. wrong_size n)

-- ---- along the row: the first bad message stands
-- a frame's verdict y after what was known, b; the rest tells `later`, and all `now`
first_stands : (b y : Checked) (later all : Answer ℕ) → all ≡ pick (is_bad y) (of_checked y) later
    → pick (is_bad (pick (is_bad b) b y)) (of_checked (pick (is_bad b) b y)) later ≡ pick (is_bad b) (of_checked b) all
unfolding pick
first_stands b y later all e =
    tested (is_bad b)
    (λ h. rw (h, h))
    (λ h. rw h (sym e))

none_bad : (b : Checked) → of_checked b ≡ pick (is_bad b) (of_checked b) (gives 0)
unfolding pick of_checked
none_bad (Ok u) = refl
none_bad (Err e) = refl

-- what the code holds beside what strict reassembly knows: the open message's bytes at the start of the buffer
pub record Holds (t : Tx) (o : Option OpenMessage) : Type 0 where
  pub clear : t.scan.fault ≡ None
  pub knows : Knows t.scan o
  pub long : length t.buffer ≡ 223
  pub starts : take (length (had o)) t.buffer ≡ had o
  pub fits : Fits o

-- the first bad message of those that the row gives
abbrev pub BadTells : Tx → List Frame → Answer (List BenchMessage) → Type 0
BadTells t fs (refuses k vs) = Unit {0}
BadTells t fs (gives ms) = of_checked (tx_all t fs).bad ≡ pick (is_bad t.bad) (of_checked t.bad) (each_from t.base t.scan.messages (previous_of t.scan.messages t.last) ms)

-- a frame that makes no message whole
module _ (t : Tx) (f : Frame) (fs : List Frame) {a : Scan} (ea : scan_frame t.scan f ≡ a) (same : a.messages ≡ t.scan.messages) where
  messages_same : (scan_frame t.scan f).messages ≡ t.scan.messages
  messages_same = ap (λ (u : Scan). u.messages) ea ∙ same

  bad_none : (tx_of t f).bad ≡ pick (is_bad t.bad) t.bad (Ok tt)
  unfolding tx_of bad_of
  bad_none = ap (pick (is_bad t.bad) t.bad) (sym (when_ge _ _ {a = t.scan.messages} {b = (scan_frame t.scan f).messages} (omega (arith, messages_same)) refl))

  last_none : (tx_of t f).last ≡ t.last
  unfolding tx_of last_of
  last_none = sym (when_ge _ _ {a = t.scan.messages} {b = (scan_frame t.scan f).messages} (omega (arith, messages_same)) refl)

  none_tells : (ms : List BenchMessage) → BadTells (tx_of t f) fs (gives ms) → BadTells t (f ∷ fs) (gives ms)
  unfolding tx_of pick
  none_tells ms d =
      let all : Answer ℕ = each_from t.base t.scan.messages (previous_of t.scan.messages t.last) ms in
      d
      ∙ ap (λ (b : Checked). pick (is_bad b) (of_checked b) (each_from t.base (scan_frame t.scan f).messages (previous_of (scan_frame t.scan f).messages (last_of t (scan_frame t.scan f))) ms)) bad_none
      ∙ ap (λ (n : ℕ). pick (is_bad (pick (is_bad t.bad) t.bad (Ok tt))) (of_checked (pick (is_bad t.bad) t.bad (Ok tt))) (each_from t.base n (previous_of n (last_of t (scan_frame t.scan f))) ms)) messages_same
      ∙ ap (λ (n : ℕ). pick (is_bad (pick (is_bad t.bad) t.bad (Ok tt))) (of_checked (pick (is_bad t.bad) t.bad (Ok tt))) (each_from t.base t.scan.messages (previous_of t.scan.messages n) ms)) last_none
      ∙ first_stands t.bad (Ok tt) all all refl

-- a frame that makes one whole
module _ (t : Tx) (f : Frame) (fs : List Frame) {a : Scan} (ea : scan_frame t.scan f ≡ a) (m : BenchMessage) (more : a.messages ≡ t.scan.messages + 1)
    (same_sequence : a.sequence ≡ m.sequence) (same_size : a.announced ≡ length m.payload) (starts : take (length m.payload) (buffer_of t f) ≡ m.payload) where
  abbrev i : ℕ
  i = t.scan.messages

  messages_more : (scan_frame t.scan f).messages ≡ t.scan.messages + 1
  messages_more = ap (λ (u : Scan). u.messages) ea ∙ more

  sequence_is : (scan_frame t.scan f).sequence ≡ m.sequence
  sequence_is = ap (λ (u : Scan). u.sequence) ea ∙ same_sequence

  size_is : (scan_frame t.scan f).announced ≡ length m.payload
  size_is = ap (λ (u : Scan). u.announced) ea ∙ same_size

  abbrev judged : Checked
  judged = message_of t.base i t.last m.sequence (length m.payload) (buffer_of t f)

  bad_one : (tx_of t f).bad ≡ pick (is_bad t.bad) t.bad judged
  unfolding tx_of bad_of
  bad_one =
      ap (pick (is_bad t.bad) t.bad)
      (sym (when_lt _ _ {a = i} {b = (scan_frame t.scan f).messages} (omega (arith, messages_more)) refl)
      ∙ ap (λ (q : ℕ). message_of t.base i t.last q (scan_frame t.scan f).announced (buffer_of t f)) sequence_is
      ∙ ap (λ (n : ℕ). message_of t.base i t.last m.sequence n (buffer_of t f)) size_is)

  last_one : (tx_of t f).last ≡ m.sequence
  unfolding tx_of last_of
  last_one = sym (when_lt _ _ {a = i} {b = (scan_frame t.scan f).messages} (omega (arith, messages_more)) refl) ∙ sequence_is

  previous_one : previous_of (i + 1) m.sequence ≡ some m.sequence
  previous_one = sym (when_ne _ _ {a = i + 1} {b = 0} (λ e. omega arith) refl)

  one_tells : (ms : List BenchMessage) → BadTells (tx_of t f) fs (gives ms) → BadTells t (f ∷ fs) (gives (m ∷ ms))
  unfolding tx_of
  one_tells ms d =
      let rest : Answer ℕ = each_from t.base (i + 1) (some m.sequence) ms in
      d
      ∙ ap (λ (b : Checked). pick (is_bad b) (of_checked b) (each_from t.base (scan_frame t.scan f).messages (previous_of (scan_frame t.scan f).messages (last_of t (scan_frame t.scan f))) ms)) bad_one
      ∙ ap (λ (n : ℕ). pick (is_bad (pick (is_bad t.bad) t.bad judged)) (of_checked (pick (is_bad t.bad) t.bad judged)) (each_from t.base n (previous_of n (last_of t (scan_frame t.scan f))) ms)) messages_more
      ∙ ap (λ (n : ℕ). pick (is_bad (pick (is_bad t.bad) t.bad judged)) (of_checked (pick (is_bad t.bad) t.bad judged)) (each_from t.base (i + 1) (previous_of (i + 1) n) ms)) last_one
      ∙ ap (λ (o : Option ℕ). pick (is_bad (pick (is_bad t.bad) t.bad judged)) (of_checked (pick (is_bad t.bad) t.bad judged)) (each_from t.base (i + 1) o ms)) previous_one
      ∙ first_stands t.bad judged rest (each_from t.base i (previous_of i t.last) (m ∷ ms)) (message_tells t.base i t.last m ms (buffer_of t f) starts)

-- ---- the row
abbrev RestBad : List Frame → Type 0
RestBad fs = (t : Tx) (o : Option OpenMessage) → Holds t o → BadTells t fs (messages_from t.scan.source t.scan.pgn t.scan.n o fs)

shows_at : (s : Scan) (o : OpenMessage) → Shows s o → s.announced - s.missing ≡ length o.bytes
shows_at s o k =
    let l : s.missing + length o.bytes ≡ o.announced = k.lacks in
    let z : s.announced ≡ o.announced = k.same_size in
    omega arith

shows_fit : (s : Scan) (o : OpenMessage) → Shows s o → o.announced ≤ 223 → length o.bytes ≤ 223
shows_fit s o k h = let l : s.missing + length o.bytes ≡ o.announced = k.lacks in omega arith

module _ (t : Tx) (f : Frame) (fs : List Frame) (o : Option OpenMessage) (hold : Holds t o) (narrow : is_wide f.id ≡ false) (rest : RestBad fs) where
  abbrev s : Scan
  s = t.scan

  abbrev bs : List ℕ
  bs = frame_bytes f

  none_all : {a : Scan} → scan_frame t.scan f ≡ a → a.messages ≡ t.scan.messages → (x : Answer (List BenchMessage)) → BadTells (tx_of t f) fs x → BadTells t (f ∷ fs) x
  none_all ea same (refuses k vs) d = tt
  none_all ea same (gives ms) d = none_tells t f fs ea same ms d

  hold_next : {a : Scan} → scan_frame t.scan f ≡ a → (o' : Option OpenMessage) → a.fault ≡ None → Knows a o' → take (length (had o')) (buffer_of t f) ≡ had o' → Fits o' → Holds (tx_of t f) o'
  unfolding tx_of
  hold_next ea o' c k b g = record {
    clear = ap (λ (u : Scan). u.fault) ea ∙ c;
    knows = subst (λ (u : Scan). Knows u o') (sym ea) k;
    long = buffer_long t f ∙ hold.long;
    starts = b;
    fits = g;
  }

  rest_from : {a : Scan} → scan_frame t.scan f ≡ a → (o' : Option OpenMessage) → Holds (tx_of t f) o' → BadTells (tx_of t f) fs (messages_from a.source a.pgn a.n o' fs)
  unfolding tx_of
  rest_from ea o' h = subst (λ (u : Scan). BadTells (tx_of t f) fs (messages_from u.source u.pgn u.n o' fs)) ea (rest (tx_of t f) o' h)

  buffer_kept : added_of t.scan f ≡ [] → buffer_of t f ≡ t.buffer
  unfolding buffer_of
  buffer_kept e = ap (sets t.buffer ((scan_frame t.scan f).announced - (scan_frame t.scan f).missing - ((scan_frame t.scan f).total - t.scan.total))) e

  skip_bad : scan_frame t.scan f ≡ skipped t.scan → BadTells t (f ∷ fs) (messages_from t.scan.source t.scan.pgn (t.scan.n + 1) o fs)
  skip_bad e =
      let b : take (length (had o)) (buffer_of t f) ≡ had o = ap (take (length (had o))) (buffer_kept (skip_adds t.scan f hold.clear narrow e)) ∙ hold.starts in
      none_all e refl (messages_from t.scan.source t.scan.pgn (t.scan.n + 1) o fs)
      (rest_from e o (hold_next e o hold.clear (skip_knows t.scan o hold.knows) b hold.fits))

  module _ (own : is_other t.scan.source t.scan.pgn f.id ≡ false) where
    wait_bad : (p : OpenMessage) → Waits t.scan (frame_bytes f) f.len (had o) p → p.announced ≤ 223 → BadTells t (f ∷ fs) (messages_from t.scan.source t.scan.pgn (t.scan.n + 1) (some p) fs)
    unfolding taken
    wait_bad p w g =
        let e : scan_frame t.scan f ≡ taken t.scan (frame_bytes f) = takes t.scan f hold.clear narrow own w.clear in
        let grows : had o ++ added_of t.scan f ≡ p.bytes = ap (λ (l : List ℕ). had o ++ l) (adds t.scan f hold.clear narrow e) ∙ w.bytes in
        let small : length p.bytes ≤ 223 = shows_fit (taken t.scan (frame_bytes f)) p w.shows g in
        let long : length t.buffer ≡ 223 = hold.long in
        let b : take (length p.bytes) (buffer_of t f) ≡ p.bytes = buffer_starts t f e (had o) p.bytes hold.starts grows (shows_at (taken t.scan (frame_bytes f)) p w.shows) (omega arith) in
        none_all e w.still (messages_from t.scan.source t.scan.pgn (t.scan.n + 1) (some p) fs)
        (rest_from e (some p) (hold_next e (some p) hold.clear w.shows b g))

    one_all : (m : BenchMessage) → Whole t.scan (frame_bytes f) f.len (had o) m → take (length m.payload) (buffer_of t f) ≡ m.payload → (x : Answer (List BenchMessage)) → BadTells (tx_of t f) fs x → BadTells t (f ∷ fs) (before m x)
    unfolding before
    one_all m w b (refuses k vs) d = tt
    one_all m w b (gives ms) d = one_tells t f fs (takes t.scan f hold.clear narrow own w.clear) m w.one_more w.same_sequence w.same_size b ms d

    whole_bad : (m : BenchMessage) → Whole t.scan (frame_bytes f) f.len (had o) m → length m.payload ≤ 223 → BadTells t (f ∷ fs) (before m (messages_from t.scan.source t.scan.pgn (t.scan.n + 1) none fs))
    unfolding taken
    whole_bad m w g =
        let e : scan_frame t.scan f ≡ taken t.scan (frame_bytes f) = takes t.scan f hold.clear narrow own w.clear in
        let grows : had o ++ added_of t.scan f ≡ m.payload = ap (λ (l : List ℕ). had o ++ l) (adds t.scan f hold.clear narrow e) ∙ w.bytes in
        let long : length t.buffer ≡ 223 = hold.long in
        let shut : (taken t.scan (frame_bytes f)).missing ≡ 0 = w.shut in
        let size : (taken t.scan (frame_bytes f)).announced ≡ length m.payload = w.same_size in
        let b : take (length m.payload) (buffer_of t f) ≡ m.payload = buffer_starts t f e (had o) m.payload hold.starts grows (omega (arith, shut, size)) (omega arith) in
        one_all m w b (messages_from t.scan.source t.scan.pgn (t.scan.n + 1) none fs)
        (rest_from e none (hold_next e none hold.clear w.shut refl tt))

    outcome_bad : (x : FrameOutcome) → Does t.scan (frame_bytes f) f.len (had o) x → FitsIn x → BadTells t (f ∷ fs) (then_of x (λ o'. messages_from t.scan.source t.scan.pgn (t.scan.n + 1) o' fs))
    unfolding then_of
    outcome_bad (refused k vs) d g = tt
    outcome_bad (waits p) d g = wait_bad p d g
    outcome_bad (whole m) d g = whole_bad m d g

pub bad_tells : (fs : List Frame) → AllNarrow fs → RestBad fs
unfolding messages_from end_of each_from
bad_tells [] narrow t none h = none_bad t.bad
bad_tells [] narrow t (some o) h = tt
bad_tells (f ∷ fs) narrow t o h =
    tested (is_other t.scan.source t.scan.pgn f.id)
    (λ e. subst (BadTells t (f ∷ fs)) (when_true _ _ e refl) (skip_bad t f fs o h narrow.0 (bad_tells fs narrow.1) (skips t.scan f h.clear narrow.0 e)))
    (λ e. subst (BadTells t (f ∷ fs)) (when_false _ _ e refl)
    (outcome_bad t f fs o h narrow.0 (bad_tells fs narrow.1) e (outcome_of t.scan.n o (frame_bytes f) f.len)
    (frame_does t.scan (frame_bytes f) f.len (eight_long f.«data») o h.knows) (outcome_fits t.scan.n o (frame_bytes f) f.len h.fits)))

-- ---- the answer
pushed : {A B : Type 0} (g : A → B) (t : Bool) (x y : A) → g (pick t x y) ≡ pick t (g x) (g y)
unfolding pick
pushed g true x y = refl
pushed g false x y = refl

turned : {A : Type 0} (t : Bool) (x y : A) → pick (pick t false true) x y ≡ pick t y x
unfolding pick
turned true x y = refl
turned false x y = refl

module _ (e : Tx) (expected base : ℕ) where
  -- 20 to 26
  ran_stops : (k : ℕ) (vs : List ℕ) → Stops e.scan k vs → of_checked (ran_of e expected) ≡ refuses k vs
  unfolding ran_of of_checked
  ran_stops k vs (by_fault f g n v) =
      let r : Err (Faulty f) ≡ ran_of e expected = when_true _ _ (ap is_faulty g) (sym (ap faulty_of g)) in
      sym (ap of_checked r) ∙ rw (n, v)
  ran_stops k vs (by_end g m n v) =
      let r : Err (Open e.scan.announced) ≡ ran_of e expected = when_false _ _ (ap is_faulty g) (when_lt _ _ {a = 0} {b = e.scan.missing} m refl) in
      sym (ap of_checked r) ∙ rw (← n, ← v)

  -- 33, and then the messages
  ran_ends : (ms : List BenchMessage) → e.scan.fault ≡ None → e.scan.missing ≡ 0 → e.scan.messages ≡ length ms → of_checked e.bad ≡ each_from base 0 none ms → of_checked (ran_of e expected) ≡ sent_of expected base (gives ms)
  unfolding ran_of sent_of of_checked
  ran_ends ms clear shut many each =
      let r : pick (eqb e.scan.messages expected) e.bad (Err (Count e.scan.messages)) ≡ ran_of e expected = when_false _ _ (ap is_faulty clear) (when_ge _ _ {a = 0} {b = e.scan.missing} (omega arith) refl) in
      sym (ap of_checked r) ∙ pushed of_checked (eqb e.scan.messages expected) e.bad (Err (Count e.scan.messages))
      ∙ ap (λ (x : Answer ℕ). pick (eqb e.scan.messages expected) x (of_checked (Err (Count e.scan.messages)))) each
      ∙ ap (λ (n : ℕ). pick (eqb n expected) (each_from base 0 none ms) (of_checked (Err (Count n)))) many

  ran_tells : (s : Scan) (fs : List Frame) → e.scan ≡ scan_of s fs → s.messages ≡ 0 → (x : Answer (List BenchMessage)) → Tells s [] fs x
      → ((ms : List BenchMessage) → x ≡ gives ms → of_checked e.bad ≡ each_from base 0 none ms) → of_checked (ran_of e expected) ≡ sent_of expected base x
  unfolding sent_of
  ran_tells s fs es z (refuses k vs) d each = ran_stops k vs (subst (λ (u : Scan). Stops u k vs) (sym es) d)
  ran_tells s fs es z (gives ms) d each =
      ran_ends ms (ap (λ (u : Scan). u.fault) es ∙ d.clear) (ap (λ (u : Scan). u.missing) es ∙ d.shut)
      (ap (λ (u : Scan). u.messages) es ∙ d.many ∙ ap (λ (n : ℕ). n + length ms) z ∙ zero-add (length ms)) (each ms refl)

module _ (fs : List Frame) (source expected base : ℕ) where
  abbrev t₀ : Tx
  t₀ = tx_start source base

  abbrev last : Tx
  last = tx_all t₀ fs

  -- the code's answer after 30 and 31
  abbrev told : Answer ℕ
  told = of_checked (pick (is_over last.scan.fault) (faulty_of last.scan.fault) (pick (is_unclaimed last.claim) (Err NoClaim) (ran_of last expected)))

  module _ (narrow : AllNarrow fs) where
    each_told : (ms : List BenchMessage) → messages_of fs source 127489 ≡ gives ms → of_checked (tx_all (tx_start source base) fs).bad ≡ each_from base 0 none ms
    unfolding pick
    each_told ms e = subst (BadTells t₀ fs) e (bad_tells fs narrow t₀ none (record { clear = refl; knows = refl; long = refl; starts = refl; fits = tt }))

    ran_told : of_checked (ran_of last expected) ≡ sent_of expected base (messages_of fs source 127489)
    ran_told = ran_tells last expected base (start_of source 127489) fs (scan_kept fs t₀) refl (messages_of fs source 127489) (row_tells fs narrow (start_of source 127489) none refl refl) each_told

    claimed_told : of_checked (pick (is_unclaimed last.claim) (Err NoClaim) (ran_of last expected)) ≡ transmission_of fs source expected base
    unfolding of_checked transmission_of
    claimed_told =
        pushed of_checked (is_unclaimed last.claim) (Err NoClaim) (ran_of last expected)
        ∙ ap (λ (u : Bool). pick u (refuses 32 []) (of_checked (ran_of last expected))) (claims_tell fs t₀)
        ∙ turned (is_claimed source fs) (refuses 32 []) (of_checked (ran_of last expected))
        ∙ ap (λ (x : Answer ℕ). pick (is_claimed source fs) x (refuses 32 [])) ran_told

    narrow_told : told ≡ transmission_of fs source expected base
    narrow_told =
        let over : is_over last.scan.fault ≡ false = ap (λ (s : Scan). is_over s.fault) (scan_kept fs t₀) ∙ wide_none fs (start_of source 127489) refl narrow in
        sym (ap of_checked (when_false _ _ over refl)) ∙ claimed_told

  wide_told : (n : ℕ) → first_wide 0 fs ≡ some n → told ≡ refuses 29 (n ∷ [])
  unfolding of_checked fault_number fault_values
  wide_told n e =
      let f : last.scan.fault ≡ Some (TooWide n) = ap (λ (s : Scan). s.fault) (scan_kept fs t₀) ∙ wide_found fs (start_of source 127489) refl e in
      sym (ap of_checked (when_true _ _ (ap is_over f) refl)) ∙ ap (λ (x : Standing). of_checked (faulty_of x)) f

  width_told : (x : Option ℕ) → first_wide 0 fs ≡ x → told ≡ wide_first x (transmission_of fs source expected base)
  unfolding wide_first
  width_told none e = narrow_told (all_narrow fs 0 e)
  width_told (some n) e = wide_told n e

  pub check_tells : of_checked (checked_of (tx_all (tx_start source base) fs) expected) ≡ check_tx_of fs source expected base
  unfolding checked_of check_tx_of over_of of_checked
  check_tells =
      let rest : Checked = pick (is_over last.scan.fault) (faulty_of last.scan.fault) (pick (is_unclaimed last.claim) (Err NoClaim) (ran_of last expected)) in
      pushed of_checked (eqb expected 0) (Err NoCount) (pick (over_of last.base expected) (Err Over) rest)
      ∙ ap (pick (eqb expected 0) (refuses 30 []))
      (pushed of_checked (over_of last.base expected) (Err Over) rest
      ∙ ap (λ (b : ℕ). pick (over_of b expected) (refuses 31 []) (of_checked rest)) (base_kept fs t₀)
      ∙ ap (pick (ltb 4294967295 (base + (expected - 1))) (refuses 31 [])) (width_told (first_wide 0 fs) refl))

-- ---- the code's way, whichever form its row has
pub check_told : (fs : List Frame) (source expected base : ℕ) {t u : Tx} {z : Checked} → t ≡ tx_start source base → u ≡ tx_all t fs → z ≡ checked_of u expected → ChecksTx fs source expected base z
check_told fs source expected base et eu ez =
    ap of_checked (ez ∙ ap (λ (v : Tx). checked_of v expected) (eu ∙ ap (λ (v : Tx). tx_all v fs) et)) ∙ check_tells fs source expected base
