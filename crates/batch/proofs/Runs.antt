-- The loop over the frames: what the code's pool, counters and rows are after i of them, and why one frame more is one step of the run. Assumes nothing.
use Rattle.std.proofs.Common.{◌≡◌, ℕ, suc, ◌+◌, ◌-◌, ◌*◌, ◌<◌, ◌≤◌, Bool, true, false, not, ◌||◌, ltb, ◌⊎◌, List, ◌++◌, length, get_or, take, drop, set, replicate, sym, refl, ap, ◌∙◌, subst, inl, inr, true≢false, add-zero, zero-add, add-one, arith, length-drop, length-set, take-append-drop, length-take-le, drop-drop, take-suc-set, take_at, drop-set-lt, ltb-false, le-ltb}
use lib.Seq.{paste, paste-zero, take-paste, drop-paste, set-get_or, length-paste}
use native.Mathlib.Nat.{sub-zero}
use Rattle.base.specs.Answer.{gives}
use Rattle.base.specs.Pick.{pick}
use Rattle.session.specs.declared.Heard.{Heard}
use Rattle.session.specs.declared.Head.{Head}
use Rattle.session.specs.declared.Plan.{Plan}
use Rattle.session.specs.declared.Counters.{Counters}
use Rattle.session.specs.Kinds.{kind_number}
use Rattle.session.specs.Rules.{Rules, pool_limit, part_allowed, rules_by}
use Rattle.session.specs.declared.Mode.{Mode}
use Rattle.session.specs.declared.PoolKind.{PoolKind}
use Rattle.session.specs.declared.PoolKind.TheVariants.{Original, Addressed}
use Rattle.session.specs.declared.Kind.{Kind}
use Rattle.session.specs.declared.Kind.TheVariants.{FragmentConsumed, MessageComplete}
use Rattle.session.specs.Heads.{copied_head}
use Rattle.session.specs.Counting.{Mark, raised}
use Rattle.session.specs.inner.Search.{found_in}
use Rattle.session.specs.inner.Plan.{idle}
use Rattle.base.proofs.Bools.{or_left, or_right}
use Rattle.assembler.specs.declared.Pool.{Pool}
use Rattle.assembler.specs.Call.{part_fits}
use Rattle.assembler.specs.Slots.{impossible}
use Rattle.assembler.specs.Making.{pool_bytes}
use Rattle.assembler.specs.View.{slots_of, receive_of}
use Rattle.assembler.specs.Promises.{same_kind}
use Rattle.assembler.proofs.Views.{Whole}
use Rattle.assembler.proofs.Carries.{carried, Does, slot_long}
use Rattle.assembler.proofs.Crowded.{looked_at}
use Rattle.batch.proofs.WayLaws.{short_plan, run_plan}
use Rattle.std.specs.Prelude.{Result, Ok, Err, is_err}
use Rattle.batch.specs.declared.BatchError.{BatchError}
use Rattle.batch.specs.inner.Ways.{refusal_of}
use Rattle.batch.specs.Lengths.{too_short}
use Rattle.batch.specs.Rows.{Rows, frame_in_rows, refuses_pool, Run, empty_run, took, answer_in, run_from, run_of, BatchLeft, over, leaves, refused_by, batch_of, of_batched}

-- ---- the bytes of a message, in the arena and as the answer has them

module _ (ar src : List ℕ) (u n : ℕ) (room : u + n ≤ length ar) (there : n ≤ length src) where
  laid_front : (m : ℕ) → n ≤ 223 → m ≡ n → take (u + m) (paste ar u src n) ≡ take u ar ++ take m (paste (replicate 223 0) 0 src n)
  laid_front m few e =
      rw (e, take-paste ar u src n (omega arith) there)
      (ap (λ (r : List ℕ). take u ar ++ r) (sym (take_at (take n src) _ n (length-take-le n src there))))

module _ (ar b fr : List ℕ) (u w s : ℕ) (fw : u + w ≤ length ar) (fs : u + s ≤ length ar) (hw : w ≤ length b) (hs : s ≤ length fr) (mw : w ≤ 223) (ms : s ≤ 223) where
  -- what the two copies leave in the arena
  abbrev laid : List ℕ
  laid = paste (paste ar u b w) u fr s

  abbrev payload : List ℕ
  payload = paste (paste (replicate 223 0) 0 b w) 0 fr s

  laid_start : (w ≡ 0) ⊎ (s ≡ 0) → take (u + (w + s)) laid ≡ take u ar ++ take (w + s) payload
  laid_start (inl e) =
      rw (e, ← paste-zero ar u b, ← paste-zero (replicate 223 0) 0 b)
      (laid_front ar fr u s fs hs (0 + s) ms (omega arith))
  laid_start (inr e) =
      rw (e, ← paste-zero (paste ar u b w) u fr, ← paste-zero (paste (replicate 223 0) 0 b w) 0 fr)
      (laid_front ar b u w fw hw (w + 0) mw (omega arith))

  laid_rest : (w ≡ 0) ⊎ (s ≡ 0) → drop (u + (w + s)) laid ≡ drop (u + (w + s)) ar
  laid_rest (inl e) =
      let k : u + (0 + s) ≡ u + s = omega arith in
      rw (e, k, ← paste-zero ar u b) (drop-paste ar u fr s (omega arith) hs)
  laid_rest (inr e) =
      let k : u + (w + 0) ≡ u + w = omega arith in
      rw (e, k, ← paste-zero (paste ar u b w) u fr) (drop-paste ar u b w (omega arith) hw)

  laid_long : length laid ≡ length ar
  laid_long =
      let l : length (paste ar u b w) ≡ length ar = length-paste ar u b w fw hw in
      length-paste (paste ar u b w) u fr s (omega arith) hs ∙ l

-- ---- the rows are long enough

pub record Fitting (n : ℕ) (w : Rows) (ks ls : List ℕ) : Type 0 where
  pub pgns : n ≤ length w.pgns
  pub sources : n ≤ length w.sources
  pub bytes : n * 8 ≤ length w.bytes
  pub kinds : n ≤ length ks
  pub lengths : n ≤ length ls

fitting : (n : ℕ) (w : Rows) (ks ls : List ℕ) → too_short n (length w.pgns) (length w.sources) (length w.bytes) (length ks) (length ls) ≡ false → Fitting n w ks ls
unfolding too_short
fitting n w ks ls e =
    let e1 = or_right (ltb (length w.pgns) n) _ e in
    let e2 = or_right (ltb (length w.sources) n) _ e1 in
    let e3 = or_right (ltb (length w.bytes) (n * 8)) _ e2 in
    let e4 = or_right (ltb (length ks) n) _ e3 in
    record {
      pgns = ltb-false _ _ (or_left (ltb (length w.pgns) n) _ e);
      sources = ltb-false _ _ (or_left (ltb (length w.sources) n) _ e1);
      bytes = ltb-false _ _ (or_left (ltb (length w.bytes) (n * 8)) _ e2);
      kinds = ltb-false _ _ (or_left (ltb (length ks) n) _ e3);
      lengths = ltb-false _ _ e4;
    }

-- ---- plans

-- a message comes from the buffer or from the frame, never from both
abbrev Apart : Plan → Type 0
Apart d = (d.whole ≡ 0) ⊎ (d.short ≡ 0)

-- without a slot
record Untouched (h : Head) (d : Plan) : Type 0 where
  head : d.head ≡ h
  count : d.count ≡ 0
  whole : d.whole ≡ 0

-- ---- the run so far

-- the code's state as a run
unfoldable pub so_far : Pool → Counters → List ℕ → List ℕ → List ℕ → ℕ → ℕ → Run
so_far q c ks ls ar used i = record { pool = q; counters = c; kinds = take i ks; lengths = take i ls; messages = take used ar }

module _ (R : Rules) (l : List ℕ) (w : Rows) (p : Pool) (k : Counters) (ks₀ ls₀ ar₀ : List ℕ) where
  -- after i frames: the rows past them are as they were, and the run goes on from here to what it comes to
  pub record Running (ks ls ar : List ℕ) (q : Pool) (c : Counters) (used i : ℕ) : Type 0 where
    pub low : i ≤ length w.times
    pub fit : Fitting (length w.times) w ks₀ ls₀
    pub whole : Whole q
    pub kinds : length ks ≡ length ks₀
    pub lengths : length ls ≡ length ls₀
    pub arena : length ar ≡ length ar₀
    pub room : used ≤ length ar
    pub kinds_kept : drop i ks ≡ drop i ks₀
    pub lengths_kept : drop i ls ≡ drop i ls₀
    pub arena_kept : drop used ar ≡ drop used ar₀
    pub run : run_from R l w (length ar₀) (length w.times - i) i (so_far q c ks ls ar used i) ≡ run_of R l w (length ar₀) p k

  pub begins : Whole p → Fitting (length w.times) w ks₀ ls₀ → Running ks₀ ls₀ ar₀ p k 0 0
  begins h fit =
      record {
        low = omega arith;
        fit = fit;
        whole = h;
        kinds = refl;
        lengths = refl;
        arena = refl;
        room = omega arith;
        kinds_kept = refl;
        lengths_kept = refl;
        arena_kept = refl;
        run = unfold run_of so_far empty_run in rw (sub-zero (length w.times));
      }

  module _ (ks ls ar : List ℕ) (q : Pool) (c : Counters) (used i : ℕ) (h : Running ks ls ar q c used i) where
    over_is : (row₀ row : List ℕ) (n : ℕ) → n ≤ length row → drop n row ≡ drop n row₀ → over row₀ (take n row) ≡ row
    unfolding over
    over_is row₀ row n few kept = rw (length-take-le n row few, ← kept) (take-append-drop n row)

    -- a run that stops here leaves the code's answer and rows
    stopped : so_far q c ks ls ar used i ≡ run_of R l w (length ar₀) p k
        → record { answer = gives i; used = used; counters = c; pool = q; kinds = ks; lengths = ls; arena = ar } ≡ leaves (run_of R l w (length ar₀) p k) ks₀ ls₀ ar₀
    unfolding leaves so_far
    stopped e =
        let ki : i ≤ length ks = omega (arith, h.low, h.fit.kinds, h.kinds) in
        let li : i ≤ length ls = omega (arith, h.low, h.fit.lengths, h.lengths) in
        rw (
          ← e,
          over_is ks₀ ks i ki h.kinds_kept,
          over_is ls₀ ls i li h.lengths_kept,
          over_is ar₀ ar used h.room h.arena_kept,
          length-take-le i ks ki,
          length-take-le used ar h.room,
        )

    -- all frames were taken
    pub ends : length w.times ≤ i
        → record { answer = gives (length w.times); used = used; counters = c; pool = q; kinds = ks; lengths = ls; arena = ar } ≡ leaves (run_of R l w (length ar₀) p k) ks₀ ls₀ ar₀
    unfolding run_from
    ends past =
        let none_left : length w.times - i ≡ 0 = omega (arith, h.low) in
        let all : length w.times ≡ i = omega (arith, past, h.low) in
        let left : ℕ → BatchLeft = λ n. record { answer = gives n; used = used; counters = c; pool = q; kinds = ks; lengths = ls; arena = ar } in
        ap left all ∙ stopped (rw none_left at h.run)

    -- a frame by the plan d, whose message has n bytes
    module _ (lt : i < length w.times) (f : Heard) (ef : f ≡ frame_in_rows w i) (d : Plan) (g : ℕ) (does : Does f q c d g (receive_of R l f q c)) (n : ℕ) (en : n ≡ d.whole + d.short) (b : Bool) (eb : b ≡ ltb (length ar) (used + n)) where
      abbrev more : length w.times - i ≡ suc (length w.times - suc i)
      more = omega arith

      abbrev z : Run
      z = so_far q c ks ls ar used i

      answer_is : answer_in R l z (frame_in_rows w i) ≡ carried d g f q c
      unfolding answer_in so_far
      answer_is = rw (← ef) (sym does.is)

      told : length z.messages + (answer_in R l z (frame_in_rows w i)).length ≡ used + n
      unfolding so_far carried
      told = rw (answer_is, length-take-le used ar h.room, en)

      turned : pick b z (run_from R l w (length ar₀) (length w.times - suc i) (suc i) (took z (answer_in R l z (frame_in_rows w i)))) ≡ run_of R l w (length ar₀) p k
      turned = unfold run_from in rw (eb, ← told, h.arena) (rw more at h.run)

      -- the next message has no room
      stops : b ≡ true
          → record { answer = gives i; used = used; counters = c; pool = q; kinds = ks; lengths = ls; arena = ar } ≡ leaves (run_of R l w (length ar₀) p k) ks₀ ls₀ ar₀
      stops y = stopped (unfold pick in rw y at turned)

      fits_arena : b ≡ false → used + n ≤ length ar
      fits_arena y = ltb-false (length ar) (used + n) (sym eb ∙ y)

      module _ (y : b ≡ false) (low : g < pool_limit) (eight : length f.«data» ≡ 8) (alone : Apart d) (bs : List ℕ) (ebs : bs ≡ paste q.bytes (g * 223 + d.at) (drop d.from f.«data») d.count)
          (ar' : List ℕ) (ear : ar' ≡ paste (paste ar used (drop (g * 223) bs) d.whole) used (drop 2 f.«data») d.short) (m : Counters) (em : m ≡ raised d.mark c) (v : ℕ) (ev : v ≡ kind_number d.kind) where
        buffer_long : length bs ≡ pool_bytes
        buffer_long = slot_long bs f q h.whole eight g d low does.fits ebs

        -- the pool after the frame
        abbrev after : Pool
        after = record { kind = q.kind; mode = q.mode; size = q.size; heads = set q.heads g d.head; bytes = bs }

        whole_there : d.whole ≤ length (drop (g * 223) bs)
        whole_there = simp length-drop (omega (arith, buffer_long, does.fits.whole))

        short_there : d.short ≤ length (drop 2 f.«data»)
        short_there = simp length-drop (omega (arith, eight, does.fits.short))

        took_is : took z (answer_in R l z (frame_in_rows w i)) ≡ so_far after m (set ks i v) (set ls i n) ar' (used + n) (i + 1)
        unfolding took so_far carried
        took_is =
            rw (
              answer_is,
              en,
              ear,
              laid_start ar (drop (g * 223) bs) (drop 2 f.«data») used d.whole d.short (omega (arith, en, fits_arena y)) (omega (arith, en, fits_arena y)) whole_there short_there does.fits.whole (omega (arith, does.fits.short)) alone,
              add-one i,
              take-suc-set ks i v (omega (arith, lt, h.fit.kinds, h.kinds)),
              take-suc-set ls i (d.whole + d.short) (omega (arith, lt, h.fit.lengths, h.lengths)),
              ev,
              em,
              ebs,
            )

        kept_past : (row row₀ : List ℕ) (x : ℕ) → drop i row ≡ drop i row₀ → drop (i + 1) (set row i x) ≡ drop (i + 1) row₀
        kept_past row row₀ x e =
            rw (drop-set-lt (i + 1) row i x (omega arith), ← drop-drop 1 i row, ← drop-drop 1 i row₀, e)

        goes_on : Running (set ks i v) (set ls i n) ar' after m (used + n) (i + 1)
        goes_on =
            let mid = laid_long ar (drop (g * 223) bs) (drop 2 f.«data») used d.whole d.short (omega (arith, en, fits_arena y)) (omega (arith, en, fits_arena y)) whole_there short_there does.fits.whole (omega (arith, does.fits.short)) in
            let long : length ar' ≡ length ar = ap length ear ∙ mid in
            record {
              low = omega (arith, lt);
              fit = h.fit;
              whole = record { heads = simp length-set h.whole.heads; bytes = buffer_long };
              kinds = simp length-set h.kinds;
              lengths = simp length-set h.lengths;
              arena = long ∙ h.arena;
              room = omega (arith, long, fits_arena y);
              kinds_kept = kept_past ks ks₀ v h.kinds_kept;
              lengths_kept = kept_past ls ls₀ n h.lengths_kept;
              arena_kept =
                  rw (en, ear)
                  (laid_rest ar (drop (g * 223) bs) (drop 2 f.«data») used d.whole d.short (omega (arith, en, fits_arena y)) (omega (arith, en, fits_arena y)) whole_there short_there does.fits.whole (omega (arith, does.fits.short)) alone
                  ∙ rw (← drop-drop (d.whole + d.short) used ar, ← drop-drop (d.whole + d.short) used ar₀, h.arena_kept));
              run = rw (← took_is, add-one i) (unfold pick in rw y at turned);
            }

      -- a frame that takes no slot: the pool is as it was
      goes_past : b ≡ false → g < pool_limit → length f.«data» ≡ 8 → (e : Head) → Untouched (get_or q.heads g e) d → (ar' : List ℕ) → ar' ≡ paste ar used (drop 2 f.«data») d.short
          → (m : Counters) → m ≡ raised d.mark c → (v : ℕ) → v ≡ kind_number d.kind → Running (set ks i v) (set ls i n) ar' q m (used + n) (i + 1)
      goes_past y low eight e u ar' ear m em v ev =
          let bs : List ℕ = paste q.bytes (g * 223 + d.at) (drop d.from f.«data») d.count in
          let kept : bs ≡ q.bytes = rw u.count (sym (paste-zero q.bytes (g * 223 + d.at) (drop d.from f.«data»))) in
          let same : record { kind = q.kind; mode = q.mode; size = q.size; heads = set q.heads g d.head; bytes = bs } ≡ q = rw (u.head, kept, set-get_or q.heads g e) in
          let laid-short : ar' ≡ paste (paste ar used (drop (g * 223) bs) d.whole) used (drop 2 f.«data») d.short = rw (u.whole, ← paste-zero ar used (drop (g * 223) bs)) ear in
          subst (λ (x : Pool). Running (set ks i v) (set ls i n) ar' x m (used + n) (i + 1)) same
          (goes_on y low eight (inl u.whole) bs refl ar' laid-short m em v ev)

    -- ---- the four ways that the code has

    module _ (lt : i < length w.times) (f : Heard) (ef : f ≡ frame_in_rows w i) (g : ℕ) (low : g < pool_limit) (eight : length f.«data» ≡ 8) (e : Head) where
      no_bytes : false ≡ ltb (length ar) (used + 0)
      no_bytes = sym (le-ltb (length ar) (used + 0) (omega (arith, h.room)))

      -- neither a slot nor a message
      pub goes_missed : (kind : Kind) (mark : Mark) → Does f q c (idle kind mark (get_or q.heads g e)) g (receive_of R l f q c) → (m : Counters) → m ≡ raised mark c → (v : ℕ) → v ≡ kind_number kind
          → Running (set ks i v) (set ls i 0) ar q m used (i + 1)
      unfolding idle
      goes_missed kind mark does m em v ev =
          rw (add-zero used) at
          (goes_past lt f ef (idle kind mark (get_or q.heads g e)) g does 0 refl false no_bytes refl low eight e (record { head = refl; count = refl; whole = refl }) ar (paste-zero ar used (drop 2 f.«data»)) m em v ev)

      -- a message in one frame
      pub goes_short : (n : ℕ) → Does f q c (short_plan f (get_or q.heads g e) n) g (receive_of R l f q c) → (b : Bool) → b ≡ ltb (length ar) (used + n) → b ≡ false
          → (ar' : List ℕ) → ar' ≡ paste ar used (drop 2 f.«data») n → (v : ℕ) → v ≡ kind_number MessageComplete → Running (set ks i v) (set ls i n) ar' q c (used + n) (i + 1)
      unfolding short_plan raised
      goes_short n does b eb y ar' ear v ev =
          goes_past lt f ef (short_plan f (get_or q.heads g e) n) g does n (sym (zero-add n)) b eb y low eight e (record { head = refl; count = refl; whole = refl }) ar' ear c refl v ev

      -- seven bytes more
      pub goes_running : Does f q c (run_plan f (get_or q.heads g e)) g (receive_of R l f q c) → (t : Head) → t ≡ copied_head f (get_or q.heads g e)
          → (bs : List ℕ) → bs ≡ paste q.bytes (g * 223 + (get_or q.heads g e).current_size) (drop 1 f.«data») 7
          → (v : ℕ) → v ≡ kind_number FragmentConsumed → Running (set ks i v) (set ls i 0) ar (record { kind = q.kind; mode = q.mode; size = q.size; heads = set q.heads g t; bytes = bs }) c used (i + 1)
      unfolding run_plan raised
      goes_running does t et bs ebs v ev =
          let laid_none : ar ≡ paste (paste ar used (drop (g * 223) bs) 0) used (drop 2 f.«data») 0 = paste-zero ar used (drop (g * 223) bs) ∙ paste-zero (paste ar used (drop (g * 223) bs) 0) used (drop 2 f.«data») in
          rw (add-zero used, ← et) at
          (goes_on lt f ef (run_plan f (get_or q.heads g e)) g does 0 refl false no_bytes refl low eight (inl refl) bs ebs ar laid_none c refl v ev)

      -- by any plan for a slot
      pub goes_by : (d : Plan) → Does f q c d g (receive_of R l f q c) → d.short ≡ 0 → (b : Bool) → b ≡ ltb (length ar) (used + d.whole) → b ≡ false
          → (bs : List ℕ) → bs ≡ paste q.bytes (g * 223 + d.at) (drop d.from f.«data») d.count → (ar' : List ℕ) → ar' ≡ paste ar used (drop (g * 223) bs) d.whole
          → (m : Counters) → m ≡ raised d.mark c → (v : ℕ) → v ≡ kind_number d.kind
          → Running (set ks i v) (set ls i d.whole) ar' (record { kind = q.kind; mode = q.mode; size = q.size; heads = set q.heads g d.head; bytes = bs }) m (used + d.whole) (i + 1)
      goes_by d does none b eb y bs ebs ar' ear m em v ev =
          let all : d.whole ≡ d.whole + d.short = rw none (sym (add-zero d.whole)) in
          let laid-whole : ar' ≡ paste (paste ar used (drop (g * 223) bs) d.whole) used (drop 2 f.«data») d.short = rw none (ear ∙ paste-zero (paste ar used (drop (g * 223) bs) d.whole) used (drop 2 f.«data»)) in
          goes_on lt f ef d g does d.whole all b eb y low eight (inr none) bs ebs ar' laid-whole m em v ev

      -- a message in one frame, or one from a slot, that has no room
      pub stops_short : (n : ℕ) → Does f q c (short_plan f (get_or q.heads g e) n) g (receive_of R l f q c) → (b : Bool) → b ≡ ltb (length ar) (used + n) → b ≡ true
          → record { answer = gives i; used = used; counters = c; pool = q; kinds = ks; lengths = ls; arena = ar } ≡ leaves (run_of R l w (length ar₀) p k) ks₀ ls₀ ar₀
      unfolding short_plan
      stops_short n does b eb y = stops lt f ef (short_plan f (get_or q.heads g e) n) g does n (sym (zero-add n)) b eb y

      pub stops_by : (d : Plan) → Does f q c d g (receive_of R l f q c) → d.short ≡ 0 → (b : Bool) → b ≡ ltb (length ar) (used + d.whole) → b ≡ true
          → record { answer = gives i; used = used; counters = c; pool = q; kinds = ks; lengths = ls; arena = ar } ≡ leaves (run_of R l w (length ar₀) p k) ks₀ ls₀ ar₀
      stops_by d does none b eb y = stops lt f ef d g does d.whole (rw none (sym (add-zero d.whole))) b eb y

-- ---- the call's ways out

err_same : {d e : BatchError} → ◌≡◌ {A = Result Unit BatchError} (Err d) (Err e) → d ≡ e
err_same {d} h = ap (λ (r : Result Unit BatchError). either r) h
  where
    either : Result Unit BatchError → BatchError
    either (Ok u) = d
    either (Err e) = e

err≢ok : {d : BatchError} → ◌≡◌ {A = Result Unit BatchError} (Err d) (Ok tt) → ⊥
err≢ok h = true≢false (ap is_err h)

is_original : (kind : PoolKind) → not (same_kind Original kind) ≡ false → kind ≡ Original
unfolding same_kind
is_original Original e = refl
is_original Addressed e = absurd (true≢false e)

-- a pool that a batch does not refuse is of the original's kind
pub unrefused_kind : (R : Rules) (p : Pool) → refuses_pool R p ≡ false → p.kind ≡ Original
unfolding refuses_pool
unrefused_kind R p e = is_original p.kind (or_left (not (same_kind Original p.kind)) (impossible R (slots_of p)) e)

module _ (R : Rules) (l : List ℕ) (w : Rows) (p : Pool) (k : Counters) (ks ls ar : List ℕ) where
  abbrev short : Bool
  short = too_short (length w.times) (length w.pgns) (length w.sources) (length w.bytes) (length ks) (length ls)

  module _ (limit : R.limit ≡ pool_limit) (f : Heard) (r : Result Unit BatchError) (said : r ≡ refusal_of (not (same_kind Original p.kind) || (found_in R f p.size p.heads).bad) short) where
    er : r ≡ refusal_of (refuses_pool R p) short
    unfolding refuses_pool
    er = said ∙ rw (looked_at R f p limit)

    pub gives_refused : (e : BatchError) → r ≡ Err e → record { answer = of_batched (Err e); used = 0; counters = k; pool = p; kinds = ks; lengths = ls; arena = ar } ≡ batch_of R l w p k ks ls ar
    unfolding batch_of refused_by refusal_of of_batched pick
    gives_refused err y = go (refuses_pool R p) short (sym y ∙ er)
      where
        go : (b s : Bool) → Err err ≡ refusal_of b s
            → record { answer = of_batched (Err err); used = 0; counters = k; pool = p; kinds = ks; lengths = ls; arena = ar } ≡ pick b (refused_by 1 p k ks ls ar) (pick s (refused_by 27 p k ks ls ar) (leaves (run_of R l w (length ar) p k) ks ls ar))
        go true s e = rw (err_same e)
        go false true e = rw (err_same e)
        go false false e = absurd (err≢ok e)

    module _ (z : (e : BatchError) → r ≡ Err e → ⊥) where
      unrefused : (b s : Bool) → r ≡ refusal_of b s → (b ≡ false) × (s ≡ false)
      unfolding refusal_of pick
      unrefused true s e = absurd (z _ e)
      unrefused false true e = absurd (z _ e)
      unrefused false false e = (refl, refl)

      pub possible : impossible R (slots_of p) ≡ false
      unfolding refuses_pool
      possible = or_right (not (same_kind Original p.kind)) _ (unrefused (refuses_pool R p) short er).0

      pub own_kind : p.kind ≡ Original
      own_kind = unrefused_kind R p (unrefused (refuses_pool R p) short er).0

      pub fits_all : Fitting (length w.times) w ks ls
      fits_all = fitting (length w.times) w ks ls (unrefused (refuses_pool R p) short er).1

      pub gives_run : (x : BatchLeft) → x ≡ leaves (run_of R l w (length ar) p k) ks ls ar → x ≡ batch_of R l w p k ks ls ar
      unfolding batch_of pick
      gives_run x ex = ex ∙ rw ((unrefused (refuses_pool R p) short er).0, (unrefused (refuses_pool R p) short er).1)

-- ---- a frame has eight bytes

pub frame_long : (w : Rows) (i n : ℕ) (f : Heard) → i < n → n * 8 ≤ length w.bytes → f ≡ frame_in_rows w i → length f.«data» ≡ 8
unfolding frame_in_rows
frame_long w i n f h long e = ap (λ (x : Heard). length x.«data») e ∙ length-take-le 8 (drop (i * 8) w.bytes) (simp length-drop (omega arith))

-- ---- and no part, which a pool of the original's kind allows

pub row_part : (w : Rows) (i : ℕ) (f : Heard) → f ≡ frame_in_rows w i → f.part ≡ 0
unfolding frame_in_rows
row_part w i f e = ap (λ (x : Heard). x.part) e

pub row_fits : (kind : PoolKind) (mode : Mode) → kind ≡ Original → (l : List ℕ) (w : Rows) (i : ℕ) (f : Heard) → f ≡ frame_in_rows w i → part_fits (rules_by kind mode) (record { pgns = l; heard = f }) ≡ true
unfolding rules_by part_allowed
row_fits kind mode own l w i f e = rw (own, row_part w i f e)
