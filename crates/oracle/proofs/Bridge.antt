-- What the code knows after some frames tells what specs/Strict says of them.
--     frame-does   one frame: where the paper has this outcome, the code finds this fault or knows this much
--     row-tells    the row: where the paper refuses, the code's last state has that refusal; where it gives messages, the code counts and lays those
--     strict-tells the answer, the list and the arena
-- Assumes nothing.
use Prim.Native.Nat.{ℕ, ◌+◌, ◌-◌, ◌*◌, ◌/◌, ◌<◌, ◌≤◌}
use mathlib.Core.Bool.{Bool, true, false}
use mathlib.Core.List.{List, [], ◌∷◌, ◌++◌, append-nil, append_assoc}
use mathlib.Core.Option.{Option, none, some}
use mathlib.Core.Path.{◌≡◌, refl, sym, ap, ◌∙◌, subst}
use native.Mathlib.Nat.{zero-add}
use native.Mathlib.Omega.{arith}
use lib.Dec.{eqb, ltb}
use lib.ListN.{length, get_or, take, drop, length-append, length-drop, drop_of_length-le}
use lib.Seq.{sets, length-take-le, take_all, drop-drop, take-append-add, drop-append-add}
use Rattle.base.specs.Answer.{Answer, gives, refuses, counted}
use Rattle.base.specs.Pick.{pick}
use Rattle.base.proofs.Cases.{tested, less?, same?, when_eq, when_ne, when_lt, when_ge, when_true, when_false}
use Rattle.splitter.specs.Frames.{is_wide, frame_bytes}
use Rattle.oracle.specs.Ids.{is_other}
use Rattle.oracle.specs.Strict.{bench_index, bench_sequence, odd_of, BenchMessage, OpenMessage, FrameOutcome, refused, waits, whole, collected_at, first_frame, later_frame, outcome_of, before, then_of, end_of, messages_from, messages_of, payloads_of, list_from, first_wide, wide_first, room_for, delivered_to, arena_with, list_with, Reassembles}
use Rattle.oracle.specs.inner.Frames.{Standing, padding_at, first_then, later_then, message_end, fault_at}
use Rattle.oracle.proofs.StrictLaws.{row_passed, row_refused}
use Rattle.oracle.proofs.FirstWide.{AllNarrow, all_narrow, wide_found, fault_not_over}
use Rattle.oracle.specs.Numbers.{fault_number, fault_values, of_reassembled}
use Rattle.oracle.specs.inner.Scan.{header_bytes, missing_of, fault_of, skipped, refused_at, taken, is_faulty, is_width, is_over, step_on, scan_frame, scan_of, start_of, added_of, row_of, bytes_laid, rows_laid, verdict_of}
use Rattle.splitter.specs.declared.Frame.{Frame}
use Rattle.oracle.specs.declared.Scan.{Scan}
use Rattle.oracle.specs.declared.Fault.{Fault}
use Rattle.oracle.specs.declared.Fault.TheVariants.{Length, Restarted, Announced, Stray, Order, Padding, TooWide}
use Rattle.std.specs.Prelude.{Some, None, Result, Ok, Err}
use Rattle.oracle.specs.declared.ReassembleError.{ReassembleError}
use Rattle.oracle.specs.declared.ReassembleError.TheVariants.{Refused, Incomplete, NoRoom}
use Rattle.splitter.proofs.FrameLaws.{eight_long}
use Rattle.oracle.proofs.Grows.{head_low, head_high, added_end}

-- ---- what the code knows of an open message: all but its bytes
pub record Shows (s : Scan) (o : OpenMessage) : Type 0 where
  pub lacks : s.missing + length o.bytes ≡ o.announced
  pub waiting : 1 ≤ s.missing
  pub same_sequence : s.sequence ≡ o.sequence
  pub same_size : s.announced ≡ o.announced
  pub same_index : s.index ≡ o.index

abbrev pub Knows : Scan → Option OpenMessage → Type 0
Knows s none = s.missing ≡ 0
Knows s (some o) = Shows s o

-- the bytes collected so far
abbrev pub had : Option OpenMessage → List ℕ
had none = []
had (some o) = o.bytes

-- ---- what the code does where the paper has this outcome
abbrev pub added : Scan → List ℕ → List ℕ
added s bs = take ((taken s bs).total - s.total) (drop (header_bytes bs) bs)

pub record Refuses (s : Scan) (bs : List ℕ) (len k : ℕ) (vs : List ℕ) : Type 0 where
  pub why : Fault
  pub found : fault_of s bs len ≡ Some why
  pub number : fault_number why ≡ k
  pub values : fault_values why ≡ vs

pub record Waits (s : Scan) (bs : List ℕ) (len : ℕ) (q : List ℕ) (o : OpenMessage) : Type 0 where
  pub clear : fault_of s bs len ≡ None
  pub shows : Shows (taken s bs) o
  pub still : (taken s bs).messages ≡ s.messages
  pub bytes : q ++ added s bs ≡ o.bytes

pub record Whole (s : Scan) (bs : List ℕ) (len : ℕ) (q : List ℕ) (m : BenchMessage) : Type 0 where
  pub clear : fault_of s bs len ≡ None
  pub shut : (taken s bs).missing ≡ 0
  pub one_more : (taken s bs).messages ≡ s.messages + 1
  pub same_sequence : (taken s bs).sequence ≡ m.sequence
  pub same_size : (taken s bs).announced ≡ length m.payload
  pub bytes : q ++ added s bs ≡ m.payload

abbrev pub Does : Scan → List ℕ → ℕ → List ℕ → FrameOutcome → Type 0
Does s bs len q (refused k vs) = Refuses s bs len k vs
Does s bs len q (waits o) = Waits s bs len q o
Does s bs len q (whole m) = Whole s bs len q m

-- ---- what `frame_fault` says, beside what the code knows
abbrev padding_of : Scan → List ℕ → Standing
padding_of s bs = padding_at s.n (odd_of (drop (message_end s.missing (get_or bs 0 0) (get_or bs 1 0)) bs))

abbrev first_of : Scan → List ℕ → Standing
first_of s bs = first_then s.n s.missing (get_or bs 1 0) (padding_of s bs)

abbrev later_of : Scan → List ℕ → Standing
later_of s bs = later_then s.n s.missing s.sequence s.index (bench_sequence bs) (bench_index bs) (padding_of s bs)

-- the message's bytes end where those that it lacks do
both : (t : Bool) (a b : ℕ) → pick t (2 + a) (1 + b) ≡ pick t 2 1 + pick t a b
unfolding pick
both true a b = refl
both false a b = refl

end_is : (s : Scan) (bs : List ℕ) → message_end s.missing (get_or bs 0 0) (get_or bs 1 0) ≡ header_bytes bs + missing_of s bs
unfolding message_end header_bytes missing_of
end_is s bs = both (eqb (bench_index bs) 0) (get_or bs 1 0) s.missing

-- ---- a frame that passes every test but that of its padding
module _ (s : Scan) (bs : List ℕ) (len : ℕ) (q : List ℕ) (a sq ix : ℕ) (long : length bs ≡ 8) (pads : fault_of s bs len ≡ padding_of s bs)
    (lacks : missing_of s bs + length q ≡ a) (some_left : 1 ≤ missing_of s bs) (es : bench_sequence bs ≡ sq) (ea : pick (eqb (bench_index bs) 0) (get_or bs 1 0) s.announced ≡ a) (ei : bench_index bs + 1 ≡ ix) where
  abbrev m : ℕ
  m = missing_of s bs

  abbrev h : ℕ
  h = header_bytes bs

  abbrev b : List ℕ
  b = drop h bs

  abbrev opened : OpenMessage
  opened = record { sequence = sq; announced = a; index = ix; bytes = q ++ b }

  carries : length b ≡ 8 - h
  carries = length-drop h bs ∙ ap (λ (n : ℕ). n - h) long

  grown : length (q ++ b) ≡ length q + (8 - h)
  grown = length-append q b ∙ ap (λ (n : ℕ). length q + n) carries

  -- the bytes after the message are the same ones
  after_it : drop a (q ++ b) ≡ drop (h + m) bs
  after_it =
      let e : a ≡ length q + m = omega arith in
      ap (λ (n : ℕ). drop n (q ++ b)) e ∙ drop-append-add q b m ∙ drop-drop m h bs

  passes : odd_of (drop (h + m) bs) ≡ 255 → fault_of s bs len ≡ None
  passes e = pads ∙ sym (when_eq _ _ (ap (λ (k : ℕ). odd_of (drop k bs)) (end_is s bs) ∙ e) refl)

  padded : (odd_of (drop a (q ++ b)) ≡ 255 → ⊥) → fault_of s bs len ≡ Some (Padding s.n (odd_of (drop a (q ++ b))))
  padded x =
      let same : drop a (q ++ b) ≡ drop (message_end s.missing (get_or bs 0 0) (get_or bs 1 0)) bs = after_it ∙ sym (ap (λ (k : ℕ). drop k bs) (end_is s bs)) in
      pads ∙ sym (when_ne _ _ (λ e. x (ap odd_of same ∙ e)) (ap (λ (l : List ℕ). Some (Padding s.n (odd_of l))) same))

  stays_open : 8 - h < m → Does s bs len q (collected_at s.n opened)
  unfolding collected_at taken odd_of
  stays_open k =
      let lo : 1 ≤ header_bytes bs = head_low bs in
      let hi : header_bytes bs ≤ 2 = head_high bs in
      let g : length (q ++ b) < a = omega (arith, grown) in
      let z : drop (h + m) bs ≡ [] = drop_of_length-le bs {i = h + m} (omega arith) in
      let r : pick (ltb (8 - h) m) (8 - h) m ≡ 8 - h = sym (when_lt (8 - h) m k refl) in
      let d : s.total + pick (ltb (8 - h) m) (8 - h) m - s.total ≡ 8 - h = omega (arith, r) in
      let shown : Shows (taken s bs) opened = record { lacks = omega (arith, grown); waiting = omega arith; same_sequence = es; same_size = ea; same_index = ei } in
      subst (Does s bs len q) (when_lt _ _ g refl)
      (record {
        clear = passes (ap odd_of z);
        shows = shown;
        still = sym (when_lt _ _ k refl);
        bytes = ap (λ (l : List ℕ). q ++ l) (ap (λ (n : ℕ). take n b) d ∙ take_all (8 - h) b (omega (arith, carries)));
      })

  gets_whole : m ≤ 8 - h → Does s bs len q (collected_at s.n opened)
  unfolding collected_at taken fault_number fault_values
  gets_whole k =
      let g : a ≤ length (q ++ b) = omega (arith, grown) in
      let r : pick (ltb (8 - h) m) (8 - h) m ≡ m = sym (when_ge (8 - h) m k refl) in
      let d : s.total + pick (ltb (8 - h) m) (8 - h) m - s.total ≡ m = omega (arith, r) in
      let e : a ≡ length q + m = omega arith in
      let p : take a (q ++ b) ≡ q ++ take m b = ap (λ (n : ℕ). take n (q ++ b)) e ∙ take-append-add q b m in
      let t : length (take m b) ≡ m = length-take-le m b (omega (arith, carries)) in
      let l : length (take a (q ++ b)) ≡ a = ap length p ∙ length-append q (take m b) ∙ omega (arith, t) in
      same? (odd_of (drop a (q ++ b))) 255
      (λ x. subst (Does s bs len q) (when_ge _ _ g (when_eq _ _ x refl))
      (record {
        clear = passes (sym (ap odd_of after_it) ∙ x);
        shut = omega arith;
        one_more = sym (when_ge _ _ k refl);
        same_sequence = es;
        same_size = ea ∙ sym l;
        bytes = ap (λ (n : ℕ). q ++ take n b) d ∙ sym p;
      }))
      (λ x. subst (Does s bs len q) (when_ge _ _ g (when_ne _ _ x refl))
      (record {
        why = Padding s.n (odd_of (drop a (q ++ b)));
        found = padded x;
        number = refl;
        values = refl;
      }))

  pub collects : Does s bs len q (collected_at s.n opened)
  collects = less? (8 - h) m stays_open gets_whole

-- ---- one frame
module _ (s : Scan) (bs : List ℕ) (len : ℕ) (long : length bs ≡ 8) (full : len ≡ 8) where
  -- index 0
  module _ (zeroth : bench_index bs ≡ 0) where
    first_fault : {x : Standing} → x ≡ first_of s bs → x ≡ fault_of s bs len
    unfolding fault_at
    first_fault e = when_eq _ _ full (when_eq _ _ zeroth e)

    first_head : header_bytes bs ≡ 2
    unfolding header_bytes
    first_head = sym (when_eq _ _ zeroth refl)

    first_missing : missing_of s bs ≡ get_or bs 1 0
    unfolding missing_of
    first_missing = sym (when_eq _ _ zeroth refl)

    byte_there : (get_or bs 1 0 ≡ 0 → ⊥) → 1 ≤ missing_of s bs
    byte_there x = same? (get_or bs 1 0) 0 (λ e. absurd (x e)) (λ y. omega (arith, first_missing))

    first_passed : s.missing ≡ 0 → (get_or bs 1 0 ≡ 0 → ⊥) → get_or bs 1 0 ≤ 223 → Does s bs len [] (collected_at s.n (record { sequence = bench_sequence bs; announced = get_or bs 1 0; index = 1; bytes = drop 2 bs }))
    first_passed k x y =
        let f : fault_of s bs len ≡ padding_of s bs = sym (first_fault (when_ge _ _ {a = 0} {b = s.missing} (omega arith) (when_ne _ _ x (when_ge _ _ {a = 223} {b = get_or bs 1 0} y refl)))) in
        subst (λ (n : ℕ). Does s bs len [] (collected_at s.n (record { sequence = bench_sequence bs; announced = get_or bs 1 0; index = 1; bytes = drop n bs }))) first_head
        (collects s bs len [] (get_or bs 1 0) (bench_sequence bs) 1 long f (omega (arith, first_missing)) (byte_there x) refl (sym (when_eq _ _ zeroth refl)) (omega (arith, zeroth)))

    first_does : (o : Option OpenMessage) → Knows s o → Does s bs len (had o) (first_frame s.n o bs)
    unfolding first_frame fault_number fault_values
    first_does (some o) k =
        let w : 0 < s.missing = k.waiting in
        record { why = Restarted s.n; found = sym (first_fault (when_lt _ _ w refl)); number = refl; values = refl }
    first_does none k =
        let shut : s.missing ≤ 0 = omega arith in
        same? (get_or bs 1 0) 0
        (λ x. subst (Does s bs len []) (when_eq _ _ x refl)
        (record { why = Announced s.n (get_or bs 1 0); found = sym (first_fault (when_ge _ _ {a = 0} {b = s.missing} shut (when_eq _ _ x refl))); number = refl; values = refl }))
        (λ x. subst (Does s bs len []) (when_ne _ _ x refl)
        (less? 223 (get_or bs 1 0)
        (λ y. subst (Does s bs len []) (when_lt _ _ y refl)
        (record { why = Announced s.n (get_or bs 1 0); found = sym (first_fault (when_ge _ _ {a = 0} {b = s.missing} shut (when_ne _ _ x (when_lt _ _ y refl)))); number = refl; values = refl }))
        (λ y. subst (Does s bs len []) (when_ge _ _ {a = 223} {b = get_or bs 1 0} y refl) (first_passed k x y))))

  -- any other index
  module _ (other : bench_index bs ≡ 0 → ⊥) where
    later_fault : {x : Standing} → x ≡ later_of s bs → x ≡ fault_of s bs len
    unfolding fault_at
    later_fault e = when_eq _ _ full (when_ne _ _ other e)

    later_head : header_bytes bs ≡ 1
    unfolding header_bytes
    later_head = sym (when_ne _ _ other refl)

    later_missing : missing_of s bs ≡ s.missing
    unfolding missing_of
    later_missing = sym (when_ne _ _ other refl)

    module _ (o : OpenMessage) (k : Shows s o) where
      some_missing : s.missing ≡ 0 → ⊥
      some_missing e = let w : 1 ≤ s.missing = k.waiting in omega arith

      abbrev wrong : Fault
      wrong = Order s.n (bench_sequence bs) (bench_index bs) s.sequence s.index

      told_wrong : fault_values wrong ≡ s.n ∷ bench_sequence bs ∷ bench_index bs ∷ o.sequence ∷ o.index ∷ []
      unfolding fault_values
      told_wrong = rw (k.same_sequence, k.same_index)

      later_passed : bench_sequence bs ≡ o.sequence → bench_index bs ≡ o.index
          → Does s bs len o.bytes (collected_at s.n (record { sequence = o.sequence; announced = o.announced; index = o.index + 1; bytes = o.bytes ++ drop 1 bs }))
      later_passed x y =
          let f : fault_of s bs len ≡ padding_of s bs = sym (later_fault (when_ne _ _ some_missing (when_eq _ _ (x ∙ sym k.same_sequence) (when_eq _ _ (y ∙ sym k.same_index) refl)))) in
          let l : s.missing + length o.bytes ≡ o.announced = k.lacks in
          let w : 1 ≤ s.missing = k.waiting in
          subst (λ (n : ℕ). Does s bs len o.bytes (collected_at s.n (record { sequence = o.sequence; announced = o.announced; index = o.index + 1; bytes = o.bytes ++ drop n bs }))) later_head
          (collects s bs len o.bytes o.announced o.sequence (o.index + 1) long f (omega (arith, later_missing)) (omega (arith, later_missing)) x (sym (when_ne _ _ other (sym k.same_size))) (omega (arith, y)))

      later_open : Does s bs len o.bytes (later_frame s.n (some o) bs)
      unfolding later_frame fault_number
      later_open =
          same? (bench_sequence bs) o.sequence
          (λ x. subst (Does s bs len o.bytes) (when_eq _ _ x refl)
          (same? (bench_index bs) o.index
          (λ y. subst (Does s bs len o.bytes) (when_eq _ _ y refl) (later_passed x y))
          (λ y. subst (Does s bs len o.bytes) (when_ne _ _ y refl)
          (record { why = wrong; found = sym (later_fault (when_ne _ _ some_missing (when_eq _ _ (x ∙ sym k.same_sequence) (when_ne _ _ (λ e. y (e ∙ k.same_index)) refl)))); number = refl; values = told_wrong }))))
          (λ x. subst (Does s bs len o.bytes) (when_ne _ _ x refl)
          (record { why = wrong; found = sym (later_fault (when_ne _ _ some_missing (when_ne _ _ (λ e. x (e ∙ k.same_sequence)) refl))); number = refl; values = told_wrong }))

    later_does : (o : Option OpenMessage) → Knows s o → Does s bs len (had o) (later_frame s.n o bs)
    unfolding later_frame fault_number fault_values
    later_does (some o) k = later_open o k
    later_does none k = record { why = Stray s.n; found = sym (later_fault (when_eq _ _ k refl)); number = refl; values = refl }

pub frame_does : (s : Scan) (bs : List ℕ) (len : ℕ) → length bs ≡ 8 → (o : Option OpenMessage) → Knows s o → Does s bs len (had o) (outcome_of s.n o bs len)
unfolding outcome_of fault_at fault_number fault_values
frame_does s bs len long o k =
    same? len 8
    (λ full. subst (Does s bs len (had o)) (when_eq _ _ full refl)
    (same? (bench_index bs) 0
    (λ x. subst (Does s bs len (had o)) (when_eq _ _ x refl) (first_does s bs len long full x o k))
    (λ x. subst (Does s bs len (had o)) (when_ne _ _ x refl) (later_does s bs len long full x o k))))
    (λ x. subst (Does s bs len (had o)) (when_ne _ _ x refl)
    (record { why = Length s.n len; found = sym (when_ne _ _ x refl); number = refl; values = refl }))

-- ---- the code's last state has this refusal
pub data Stops (e : Scan) (k : ℕ) (vs : List ℕ) : Type 0 where
  by_fault : (f : Fault) → e.fault ≡ Some f → fault_number f ≡ k → fault_values f ≡ vs → Stops e k vs
  by_end : e.fault ≡ None → 1 ≤ e.missing → 26 ≡ k → (e.announced ∷ []) ≡ vs → Stops e k vs

-- or it delivers these messages: `q` was collected before, and the first message starts at `at`
pub record Done (s : Scan) (q : List ℕ) (fs : List Frame) (ms : List BenchMessage) : Type 0 where
  pub clear : (scan_of s fs).fault ≡ None
  pub shut : (scan_of s fs).missing ≡ 0
  pub many : (scan_of s fs).messages ≡ s.messages + length ms
  pub bytes : q ++ bytes_laid s fs ≡ payloads_of ms
  pub rows : (at : ℕ) → at + length q ≡ s.total → rows_laid s fs ≡ list_from at ms

abbrev pub Tells : Scan → List ℕ → List Frame → Answer (List BenchMessage) → Type 0
Tells s q fs (refuses k vs) = Stops (scan_of s fs) k vs
Tells s q fs (gives ms) = Done s q fs ms

-- what is said of the frames after `f` holds of them with `f`
module _ (s : Scan) (f : Frame) (fs : List Frame) {t : Scan} (et : scan_frame s f ≡ t) (q : List ℕ) where
  total_after : t.total ≡ s.total + length (added_of s f)
  total_after = sym (ap (λ (u : Scan). u.total) et) ∙ added_end s f

  stops_on : {k : ℕ} {vs : List ℕ} → Stops (scan_of t fs) k vs → Stops (scan_of (scan_frame s f) fs) k vs
  stops_on {k} {vs} = subst (λ (u : Scan). Stops (scan_of u fs) k vs) (sym et)

  no_row : t.messages ≡ s.messages → row_of s f ≡ []
  unfolding row_of
  no_row e = sym (when_ge _ _ {a = s.messages} {b = (scan_frame s f).messages} (omega (arith, ap (λ (u : Scan). u.messages) et)) refl)

  waits_on : {q' : List ℕ} {ms : List BenchMessage} → t.messages ≡ s.messages → q ++ added_of s f ≡ q' → Done t q' fs ms → Done s q (f ∷ fs) ms
  waits_on {q'} {ms} e b d =
      let l : length q + length (added_of s f) ≡ length q' = sym (length-append q (added_of s f)) ∙ ap length b in
      let d' : Done (scan_frame s f) q' fs ms = subst (λ (u : Scan). Done u q' fs ms) (sym et) d in
      record {
        clear = d'.clear;
        shut = d'.shut;
        many = d'.many ∙ ap (λ (n : ℕ). n + length ms) (ap (λ (u : Scan). u.messages) et ∙ e);
        bytes = sym (append_assoc q (added_of s f) (bytes_laid (scan_frame s f) fs)) ∙ ap (λ (x : List ℕ). x ++ bytes_laid (scan_frame s f) fs) b ∙ d'.bytes;
        rows = λ at h. ap (λ (r : List ℕ). r ++ rows_laid (scan_frame s f) fs) (no_row e) ∙ d'.rows at (omega (arith, added_end s f));
      }

  one_row : {m : BenchMessage} (at : ℕ) → at + length q ≡ s.total → t.messages ≡ s.messages + 1 → t.sequence ≡ m.sequence → t.announced ≡ length m.payload → q ++ added_of s f ≡ m.payload
      → row_of s f ≡ m.sequence ∷ at ∷ length m.payload ∷ []
  unfolding row_of
  one_row {m} at h e g n b =
      let l : length q + length (added_of s f) ≡ length m.payload = sym (length-append q (added_of s f)) ∙ ap length b in
      let z : t.total - t.announced ≡ at = omega (arith, total_after) in
      sym (when_lt _ _ {a = s.messages} {b = (scan_frame s f).messages} (omega (arith, ap (λ (u : Scan). u.messages) et)) refl)
      ∙ ap (λ (u : Scan). u.sequence ∷ (u.total - u.announced) ∷ u.announced ∷ []) et
      ∙ rw (g, z, n)

  gets_one : {m : BenchMessage} {ms : List BenchMessage} → t.messages ≡ s.messages + 1 → t.sequence ≡ m.sequence → t.announced ≡ length m.payload → q ++ added_of s f ≡ m.payload
      → Done t [] fs ms → Done s q (f ∷ fs) (m ∷ ms)
  unfolding payloads_of list_from
  gets_one {m} {ms} e g n b d =
      let l : length q + length (added_of s f) ≡ length m.payload = sym (length-append q (added_of s f)) ∙ ap length b in
      let d' : Done (scan_frame s f) [] fs ms = subst (λ (u : Scan). Done u [] fs ms) (sym et) d in
      record {
        clear = d'.clear;
        shut = d'.shut;
        many = d'.many ∙ ap (λ (k : ℕ). k + length ms) (ap (λ (u : Scan). u.messages) et ∙ e) ∙ omega arith;
        bytes = sym (append_assoc q (added_of s f) (bytes_laid (scan_frame s f) fs)) ∙ ap (λ (x : List ℕ). x ++ bytes_laid (scan_frame s f) fs) b ∙ ap (λ (x : List ℕ). m.payload ++ x) d'.bytes;
        rows = λ at h. ap (λ (r : List ℕ). r ++ rows_laid (scan_frame s f) fs) (one_row at h e g n b) ∙ ap (λ (r : List ℕ). m.sequence ∷ at ∷ length m.payload ∷ r) (d'.rows (at + length m.payload) (omega (arith, added_end s f)));
      }

-- a refusal stands
still_refused : (s : Scan) (f : Frame) {why : Fault} → is_wide f.id ≡ false → is_width why ≡ false → s.fault ≡ Some why → scan_frame s f ≡ skipped s
unfolding step_on
still_refused s f narrow other e = sym (when_false _ _ (ap is_over e ∙ other) (when_false _ _ narrow (when_true _ _ (ap is_faulty e) refl)))

stays : (fs : List Frame) → AllNarrow fs → (s : Scan) {why : Fault} → is_width why ≡ false → s.fault ≡ Some why → (scan_of s fs).fault ≡ Some why
stays [] narrow s other e = e
stays (f ∷ fs) narrow s other e = ap (λ (t : Scan). (scan_of t fs).fault) (still_refused s f narrow.0 other e) ∙ stays fs narrow.1 (skipped s) other e

-- ---- the row
module _ (s : Scan) (f : Frame) (clear : s.fault ≡ None) (narrow : is_wide f.id ≡ false) where
  abbrev bs : List ℕ
  bs = frame_bytes f

  -- a frame is judged where no refusal stands and its identifier is not too wide
  judged : {t : Scan} → t ≡ pick (is_other s.source s.pgn f.id) (skipped s) (pick (is_faulty (fault_of s (frame_bytes f) f.len)) (refused_at s (fault_of s (frame_bytes f) f.len)) (taken s (frame_bytes f))) → scan_frame s f ≡ t
  unfolding step_on
  judged e = sym (when_false _ _ (ap is_over clear) (when_false _ _ narrow (when_false _ _ (ap is_faulty clear) e)))

  pub skips : is_other s.source s.pgn f.id ≡ true → scan_frame s f ≡ skipped s
  skips e = judged (when_true _ _ e refl)

  module _ (own : is_other s.source s.pgn f.id ≡ false) where
    pub finds : {why : Fault} → fault_of s bs f.len ≡ Some why → scan_frame s f ≡ refused_at s (Some why)
    finds {why} e = judged (when_false _ _ own (when_true _ _ (ap is_faulty e) (ap (refused_at s) (sym e))))

    pub takes : fault_of s bs f.len ≡ None → scan_frame s f ≡ taken s bs
    takes e = judged (when_false _ _ own (when_false _ _ (ap is_faulty e) refl))

  pub adds : scan_frame s f ≡ taken s bs → added_of s f ≡ added s bs
  unfolding added_of
  adds e = ap (λ (u : Scan). take (u.total - s.total) (drop (header_bytes bs) bs)) e

  pub skip_adds : scan_frame s f ≡ skipped s → added_of s f ≡ []
  unfolding added_of
  skip_adds e = let z : s.total - s.total ≡ 0 = omega arith in ap (λ (u : Scan). take (u.total - s.total) (drop (header_bytes bs) bs)) e ∙ ap (λ (n : ℕ). take n (drop (header_bytes bs) bs)) z

pub skip_knows : (s : Scan) (o : Option OpenMessage) → Knows s o → Knows (skipped s) o
skip_knows s none k = k
skip_knows s (some o) k = record { lacks = k.lacks; waiting = k.waiting; same_sequence = k.same_sequence; same_size = k.same_size; same_index = k.same_index }

-- what is known of the rest of the row, from any state on
abbrev Rest : List Frame → Type 0
Rest fs = (t : Scan) (o : Option OpenMessage) → t.fault ≡ None → Knows t o → Tells t (had o) fs (messages_from t.source t.pgn t.n o fs)

module _ (s : Scan) (f : Frame) (fs : List Frame) (rest : Rest fs) (clear : s.fault ≡ None) (narrow : AllNarrow (f ∷ fs)) where
  skip_tells : (q : List ℕ) → scan_frame s f ≡ skipped s → (x : Answer (List BenchMessage)) → Tells (skipped s) q fs x → Tells s q (f ∷ fs) x
  skip_tells q e (refuses k vs) d = stops_on s f fs e q d
  skip_tells q e (gives ms) d = waits_on s f fs e q refl (ap (λ (l : List ℕ). q ++ l) (skip_adds s f clear narrow.0 e) ∙ append-nil q) d

  module _ (own : is_other s.source s.pgn f.id ≡ false) (q : List ℕ) where
    wait_tells : (o : OpenMessage) → Waits s (frame_bytes f) f.len q o → (x : Answer (List BenchMessage)) → Tells (taken s (frame_bytes f)) o.bytes fs x → Tells s q (f ∷ fs) x
    wait_tells o w (refuses k vs) d = stops_on s f fs (takes s f clear narrow.0 own w.clear) q d
    wait_tells o w (gives ms) d =
        let e : scan_frame s f ≡ taken s (frame_bytes f) = takes s f clear narrow.0 own w.clear in
        waits_on s f fs e q w.still (ap (λ (l : List ℕ). q ++ l) (adds s f clear narrow.0 e) ∙ w.bytes) d

    whole_tells : (m : BenchMessage) → Whole s (frame_bytes f) f.len q m → (x : Answer (List BenchMessage)) → Tells (taken s (frame_bytes f)) [] fs x → Tells s q (f ∷ fs) (before m x)
    unfolding before
    whole_tells m w (refuses k vs) d = stops_on s f fs (takes s f clear narrow.0 own w.clear) q d
    whole_tells m w (gives ms) d =
        let e : scan_frame s f ≡ taken s (frame_bytes f) = takes s f clear narrow.0 own w.clear in
        gets_one s f fs e q w.one_more w.same_sequence w.same_size (ap (λ (l : List ℕ). q ++ l) (adds s f clear narrow.0 e) ∙ w.bytes) d

    outcome_tells : (x : FrameOutcome) → Does s (frame_bytes f) f.len q x → Tells s q (f ∷ fs) (then_of x (λ o'. messages_from s.source s.pgn (s.n + 1) o' fs))
    unfolding then_of taken
    outcome_tells (refused k vs) d =
        let e : scan_frame s f ≡ refused_at s (Some d.why) = finds s f clear narrow.0 own d.found in
        stops_on s f fs e q (by_fault d.why (stays fs narrow.1 (refused_at s (Some d.why)) (sym (ap is_over d.found) ∙ fault_not_over s (frame_bytes f) f.len) refl) d.number d.values)
    outcome_tells (waits o) d = wait_tells o d (messages_from s.source s.pgn (s.n + 1) (some o) fs) (rest (taken s (frame_bytes f)) (some o) clear d.shows)
    outcome_tells (whole m) d = whole_tells m d (messages_from s.source s.pgn (s.n + 1) none fs) (rest (taken s (frame_bytes f)) none clear d.shut)

pub row_tells : (fs : List Frame) → AllNarrow fs → Rest fs
unfolding messages_from end_of payloads_of list_from
row_tells [] narrow s none clear k = record { clear = clear; shut = k; many = omega arith; bytes = refl; rows = λ at h. refl }
row_tells [] narrow s (some o) clear k = by_end clear k.waiting refl (ap (λ (n : ℕ). n ∷ []) k.same_size)
row_tells (f ∷ fs) narrow s o clear k =
    let go : Tells s (had o) (f ∷ fs) (pick (is_other s.source s.pgn f.id) (messages_from s.source s.pgn (s.n + 1) o fs) (then_of (outcome_of s.n o (frame_bytes f) f.len) (λ o'. messages_from s.source s.pgn (s.n + 1) o' fs))) =
    tested (is_other s.source s.pgn f.id)
    (λ e. subst (Tells s (had o) (f ∷ fs)) (when_true _ _ e refl) (skip_tells s f fs (row_tells fs narrow.1) clear narrow (had o) (skips s f clear narrow.0 e) (messages_from s.source s.pgn (s.n + 1) o fs) (row_tells fs narrow.1 (skipped s) o clear (skip_knows s o k))))
    (λ e. subst (Tells s (had o) (f ∷ fs)) (when_false _ _ e refl) (outcome_tells s f fs (row_tells fs narrow.1) clear narrow e (had o) (outcome_of s.n o (frame_bytes f) f.len) (frame_does s (frame_bytes f) f.len (eight_long f.«data») o k))) in
    go

-- ---- the answer, the list and the arena
total_all : (fs : List Frame) (s : Scan) → (scan_of s fs).total ≡ s.total + length (bytes_laid s fs)
total_all [] s = omega arith
total_all (f ∷ fs) s = total_all fs (scan_frame s f) ∙ omega (arith, added_end s f, length-append (added_of s f) (bytes_laid (scan_frame s f) fs))

abbrev is_none : Result ℕ ReassembleError → Bool
is_none (Ok n) = false
is_none (Err e) = true

-- the promise's three facts, where the code answered v and left the list l' and the arena o'
module _ (s : Scan) (fs : List Frame) (l o : List ℕ) where
  abbrev e : Scan
  e = scan_of s fs

  pub record Kept (v : Result ℕ ReassembleError) (x : Answer (List BenchMessage)) : Type 0 where
    pub answer : of_reassembled v ≡ counted x
    pub none_list : is_none v ≡ true → l ≡ list_with x l
    pub none_arena : is_none v ≡ true → o ≡ arena_with x o
    pub some_list : is_none v ≡ false → sets l 0 (rows_laid s fs) ≡ list_with x l
    pub some_arena : is_none v ≡ false → sets o 0 (bytes_laid s fs) ≡ arena_with x o

  refuses_kept : (v : Result ℕ ReassembleError) (k : ℕ) (vs : List ℕ) → of_reassembled v ≡ refuses k vs → is_none v ≡ true → Kept v (refuses k vs)
  unfolding counted list_with arena_with
  refuses_kept v k vs a n = record {
    answer = a;
    none_list = λ _. refl;
    none_arena = λ _. refl;
    some_list = λ h. let z : ◌≡◌ {A = ℕ} 0 1 = cc in absurd (omega arith);
    some_arena = λ h. let z : ◌≡◌ {A = ℕ} 0 1 = cc in absurd (omega arith);
  }

  stops_kept : (k : ℕ) (vs : List ℕ) → Stops (scan_of s fs) k vs → Kept (verdict_of (scan_of s fs) (length l) (length o)) (refuses k vs)
  unfolding of_reassembled
  stops_kept k vs (by_fault f g n v) =
      let t : Err (Refused f) ≡ verdict_of (scan_of s fs) (length l) (length o) = row_refused _ _ _ _ _ _ _ g in
      subst (λ (r : Result ℕ ReassembleError). Kept r (refuses k vs)) t (refuses_kept (Err (Refused f)) k vs (rw (n, v)) refl)
  stops_kept k vs (by_end g m n v) =
      let t : Err (Incomplete (scan_of s fs).announced) ≡ verdict_of (scan_of s fs) (length l) (length o) = row_passed _ _ _ _ _ _ _ g (when_lt _ _ {a = 0} {b = (scan_of s fs).missing} m refl) in
      subst (λ (r : Result ℕ ReassembleError). Kept r (refuses k vs)) t (refuses_kept (Err (Incomplete (scan_of s fs).announced)) k vs (rw (← n, ← v)) refl)

  -- a fresh start
  module _ (fresh : s.total ≡ 0) (none_yet : s.messages ≡ 0) where
    gives_kept : (ms : List BenchMessage) → Done s [] fs ms → Kept (verdict_of (scan_of s fs) (length l) (length o)) (room_for (length l) (length o) (gives ms))
    unfolding of_reassembled room_for counted list_with arena_with
    gives_kept ms d =
        let many : (scan_of s fs).messages ≡ length ms = d.many ∙ omega arith in
        let all : (scan_of s fs).total ≡ length (payloads_of ms) = total_all fs s ∙ ap (λ (n : ℕ). n + length (bytes_laid s fs)) fresh ∙ zero-add (length (bytes_laid s fs)) ∙ ap length d.bytes in
        let shut : (scan_of s fs).missing ≤ 0 = let z : (scan_of s fs).missing ≡ 0 = d.shut in omega arith in
        let short : (length l / 3 < length ms) → Err NoRoom ≡ verdict_of (scan_of s fs) (length l) (length o) = λ h. row_passed _ _ _ _ _ _ _ d.clear (when_ge _ _ {a = 0} {b = (scan_of s fs).missing} shut (when_lt _ _ {a = length l / 3} {b = (scan_of s fs).messages} (omega (arith, many)) refl)) in
        less? (length l / 3) (length ms)
        (λ h. subst (Kept (verdict_of (scan_of s fs) (length l) (length o))) (when_lt _ _ h refl) (subst (λ (r : Result ℕ ReassembleError). Kept r (refuses 27 [])) (short h) (refuses_kept (Err NoRoom) 27 [] refl refl)))
        (λ h. subst (Kept (verdict_of (scan_of s fs) (length l) (length o))) (when_ge _ _ {a = length l / 3} {b = length ms} h refl)
        (less? (length o) (length (payloads_of ms))
        (λ g. subst (Kept (verdict_of (scan_of s fs) (length l) (length o))) (when_lt _ _ g refl)
        (subst (λ (r : Result ℕ ReassembleError). Kept r (refuses 27 [])) (row_passed _ _ _ _ _ _ _ d.clear (when_ge _ _ {a = 0} {b = (scan_of s fs).missing} shut (when_ge _ _ {a = length l / 3} {b = (scan_of s fs).messages} (omega (arith, many)) (when_lt _ _ {a = length o} {b = (scan_of s fs).total} (omega (arith, all)) refl)))) (refuses_kept (Err NoRoom) 27 [] refl refl)))
        (λ g. subst (Kept (verdict_of (scan_of s fs) (length l) (length o))) (when_ge _ _ {a = length o} {b = length (payloads_of ms)} g refl)
        (subst (λ (r : Result ℕ ReassembleError). Kept r (gives ms)) (row_passed _ _ _ _ _ _ _ d.clear (when_ge _ _ {a = 0} {b = (scan_of s fs).missing} shut (when_ge _ _ {a = length l / 3} {b = (scan_of s fs).messages} (omega (arith, many)) (when_ge _ _ {a = length o} {b = (scan_of s fs).total} (omega (arith, all)) refl))))
        (record {
          answer = ap gives many;
          none_list = λ x. let z : ◌≡◌ {A = ℕ} 0 1 = cc in absurd (omega arith);
          none_arena = λ x. let z : ◌≡◌ {A = ℕ} 0 1 = cc in absurd (omega arith);
          some_list = λ _. ap (sets l 0) (d.rows 0 (sym fresh));
          some_arena = λ _. ap (sets o 0) d.bytes;
        })))))

    kept_told : (x : Answer (List BenchMessage)) → Tells s [] fs x → Kept (verdict_of (scan_of s fs) (length l) (length o)) (room_for (length l) (length o) x)
    unfolding room_for
    kept_told (refuses k vs) d = stops_kept k vs d
    kept_told (gives ms) d = gives_kept ms d

  -- an identifier that is too wide stands before all
  wide_kept : (n : ℕ) → (scan_of s fs).fault ≡ Some (TooWide n) → Kept (verdict_of (scan_of s fs) (length l) (length o)) (refuses 29 (n ∷ []))
  unfolding of_reassembled fault_number fault_values
  wide_kept n e =
      subst (λ (r : Result ℕ ReassembleError). Kept r (refuses 29 (n ∷ []))) (row_refused _ _ _ _ _ _ _ e) (refuses_kept (Err (Refused (TooWide n))) 29 (n ∷ []) refl refl)

module _ (fs : List Frame) (source pgn : ℕ) (l o : List ℕ) where
  wide_tells : (x : Option ℕ) → first_wide 0 fs ≡ x
      → Kept (start_of source pgn) fs l o (verdict_of (scan_of (start_of source pgn) fs) (length l) (length o)) (wide_first x (room_for (length l) (length o) (messages_of fs source pgn)))
  unfolding wide_first
  wide_tells none e = kept_told (start_of source pgn) fs l o refl refl (messages_of fs source pgn) (row_tells fs (all_narrow fs 0 e) (start_of source pgn) none refl refl)
  wide_tells (some n) e = wide_kept (start_of source pgn) fs l o n (wide_found fs (start_of source pgn) refl e)

  pub strict_tells : Kept (start_of source pgn) fs l o (verdict_of (scan_of (start_of source pgn) fs) (length l) (length o)) (delivered_to l o fs source pgn)
  unfolding delivered_to
  strict_tells = wide_tells (first_wide 0 fs) refl

-- ---- the two ways out of strict reassembly's code
module _ (fs : List Frame) (source pgn : ℕ) (l o : List ℕ) {s st : Scan} (es : s ≡ start_of source pgn) (et : st ≡ scan_of s fs) where
  told_kept : {v : Result ℕ ReassembleError} → v ≡ verdict_of st (length l) (length o) → Kept (start_of source pgn) fs l o v (delivered_to l o fs source pgn)
  told_kept ev =
      subst (λ (r : Result ℕ ReassembleError). Kept (start_of source pgn) fs l o r (delivered_to l o fs source pgn))
      (sym (ev ∙ ap (λ (t : Scan). verdict_of t (length l) (length o)) (et ∙ ap (λ (t : Scan). scan_of t fs) es))) (strict_tells fs source pgn l o)

  pub strict_stops : {x : ReassembleError} → Err x ≡ verdict_of st (length l) (length o) → Reassembles fs source pgn l o (Err x) l o
  strict_stops ev = let k = told_kept ev in record { answer = k.answer; list_after = k.none_list refl; arena_after = k.none_arena refl }

  pub strict_goes_on : {n : ℕ} {l' o' : List ℕ} → Ok n ≡ verdict_of st (length l) (length o) → l' ≡ sets l (3 * s.messages) (rows_laid s fs) → o' ≡ sets o s.total (bytes_laid s fs) → Reassembles fs source pgn l o (Ok n) l' o'
  strict_goes_on ev el eo = let k = told_kept ev in record {
    answer = k.answer;
    list_after = el ∙ ap (λ (t : Scan). sets l (3 * t.messages) (rows_laid t fs)) es ∙ k.some_list refl;
    arena_after = eo ∙ ap (λ (t : Scan). sets o t.total (bytes_laid t fs)) es ∙ k.some_arena refl;
  }
