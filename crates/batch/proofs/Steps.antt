-- One frame, from what the code has found out about it: after each of its four ways the run has gone on by one, the pool is possible and the rows
-- beside the heads show them. Assumes nothing.
use Rattle.std.proofs.Common.{◌≡◌, ℕ, ◌+◌, ◌*◌, ◌<◌, ◌≤◌, Bool, true, false, ltb, List, length, get_or, slice_index, Some, drop, set, refl, ap, ◌∙◌, arith}
use lib.Seq.{paste}
use Rattle.base.specs.Answer.{gives}
use Rattle.fast_packet.specs.FastPacket.{listed_in}
use Rattle.session.specs.declared.Heard.{Heard}
use Rattle.session.specs.declared.Head.{Head}
use Rattle.session.specs.declared.Plan.{Plan}
use Rattle.session.specs.declared.Counters.{Counters}
use Rattle.session.specs.declared.Kind.{Kind}
use Rattle.session.specs.Kinds.{kind_number}
use Rattle.session.specs.declared.Mode.{Mode}
use Rattle.session.specs.declared.Kind.TheVariants.{FragmentConsumed, MessageComplete, NotListed}
use Rattle.session.specs.declared.Counter.TheVariants.{Unknown}
use Rattle.session.specs.declared.PoolKind.{PoolKind}
use Rattle.session.specs.declared.PoolKind.TheVariants.{Original}
use Rattle.session.specs.Rules.{rules_by, pool_limit, silent_by}
use Rattle.session.specs.Heads.{fresh_head, copied_head}
use Rattle.session.specs.Counting.{raised}
use Rattle.session.specs.inner.Plan.{plan_of}
use Rattle.assembler.specs.declared.Pool.{Pool}
use Rattle.assembler.specs.Call.{part_fits}
use Rattle.assembler.specs.Slots.{impossible}
use Rattle.assembler.specs.View.{slots_of, receive_of}
use Rattle.assembler.proofs.Carries.{Fits, Does}
use Rattle.batch.specs.Rows.{Rows, frame_in_rows, leaves, run_of}
use Rattle.batch.specs.inner.Mirror.{InRange, Keyed, Mirrors, key_number, frame_key, sought}
use Rattle.batch.specs.inner.Ways.{short_in, miss_kind, miss_mark, runs_on}
use Rattle.batch.proofs.WayLaws.{run_plan}
use Rattle.batch.proofs.Runs.{Running, goes_missed, goes_short, goes_running, goes_by, stops_short, stops_by, frame_long, row_part, row_fits}
use Rattle.batch.proofs.Sought.{seeks_unlisted, seeks_missed, seeks_short, seeks_slot, seeks_running, slot_alone, stays_possible, runs_possible}
use Rattle.batch.proofs.Mirrors.{mirrors_set, mirrors_run}

module _ (kind : PoolKind) (mode : Mode) (l : List ℕ) (w : Rows) (p₀ : Pool) (k₀ : Counters) (ks₀ ls₀ ar₀ : List ℕ) where
  -- the code's state, but for the memory of the list
  pub record Stands (ks ls ar : List ℕ) (q : Pool) (keys owners lasts : List ℕ) (c : Counters) (used i : ℕ) : Type 0 where
    pub run : Running (rules_by kind mode) l w p₀ k₀ ks₀ ls₀ ar₀ ks ls ar q c used i
    pub own : kind ≡ Original
    pub possible : impossible (rules_by kind mode) (slots_of q) ≡ false
    pub mirrors : Mirrors pool_limit q.heads keys owners lasts

  -- the batch ends here
  abbrev Ends : List ℕ → List ℕ → List ℕ → Pool → Counters → ℕ → ℕ → Type 0
  Ends ks ls ar q c used i = record { answer = gives i; used = used; counters = c; pool = q; kinds = ks; lengths = ls; arena = ar } ≡ leaves (run_of (rules_by kind mode) l w (length ar₀) p₀ k₀) ks₀ ls₀ ar₀

  -- a PGN that is not listed: nothing is looked for, and of the frame nothing more is read
  pub step_unlisted : (ks ls ar : List ℕ) (q : Pool) (keys owners lasts : List ℕ) (c : Counters) (used i : ℕ) → Stands ks ls ar q keys owners lasts c used i → i < length w.times → false ≡ listed_in (slice_index w.pgns i) l
      → (v : ℕ) → v ≡ kind_number NotListed → (m : Counters) → m ≡ raised (Some Unknown) c → Stands (set ks i v) (set ls i 0) ar q keys owners lasts m used (i + 1)
  unfolding frame_in_rows
  step_unlisted ks ls ar q keys owners lasts c used i s turn missing v ev m em =
      let f : Heard = frame_in_rows w i in
      let long : length f.«data» ≡ 8 = frame_long w i (length w.times) f turn s.run.fit.bytes refl in
      let does = seeks_unlisted kind mode l f q c s.run.whole long refl fresh_head s.possible missing in
      record {
        run = goes_missed (rules_by kind mode) l w p₀ k₀ ks₀ ls₀ ar₀ ks ls ar q c used i s.run turn f refl 0 (omega arith) long fresh_head NotListed (Some Unknown) does m em v ev;
        own = s.own;
        possible = s.possible;
        mirrors = s.mirrors;
      }

  module _ (ks ls ar : List ℕ) (q : Pool) (keys owners lasts : List ℕ) (c : Counters) (used i : ℕ) (s : Stands ks ls ar q keys owners lasts c used i) (turn : i < length w.times) (f : Heard) (row : f ≡ frame_in_rows w i) (t : Bool) (et : t ≡ listed_in f.pgn l)
      (range : InRange f.source_address f.pgn (get_or f.«data» 0 0)) (g : ℕ) (eg : g ≡ sought mode keys owners lasts q.size t (frame_key f) f) where
    long : length f.«data» ≡ 8
    long = frame_long w i (length w.times) f turn s.run.fit.bytes row

    all : f.length ≡ 8
    unfolding frame_in_rows
    all = ap (λ (x : Heard). x.length) row

    keyed : Keyed f
    keyed = record { range = range; part = omega (arith, row_part w i f row) }

    fits : part_fits (rules_by kind mode) (record { pgns = l; heard = f }) ≡ true
    fits = row_fits kind mode s.own l w i f row

    -- no slot
    module _ (past : pool_limit ≤ g) (n : ℕ) (en : n ≡ short_in t f) where
      pub step_missed : n ≡ 0 → (told : Kind) → told ≡ miss_kind t f → (v : ℕ) → v ≡ kind_number told → (m : Counters) → m ≡ raised (miss_mark t f) c → Stands (set ks i v) (set ls i 0) ar q keys owners lasts m used (i + 1)
      step_missed z told told-is v ev m em =
          let does = seeks_missed kind mode l f q c s.run.whole long all fresh_head s.possible keys owners lasts s.mirrors keyed t et (frame_key f) refl g eg past n en z in
          record {
            run = goes_missed (rules_by kind mode) l w p₀ k₀ ks₀ ls₀ ar₀ ks ls ar q c used i s.run turn f row 0 (omega arith) long fresh_head (miss_kind t f) (miss_mark t f) does m em v (ev ∙ ap kind_number told-is);
            own = s.own;
            possible = s.possible;
            mirrors = s.mirrors;
          }

      module _ (some : n ≡ 0 → ⊥) (b : Bool) (eb : b ≡ ltb (length ar) (used + n)) where
        pub stop_short : b ≡ true → Ends ks ls ar q c used i
        stop_short y =
            let does = seeks_short kind mode l f q c s.run.whole long all fresh_head s.possible keys owners lasts s.mirrors keyed t et (frame_key f) refl g eg past n en some in
            stops_short (rules_by kind mode) l w p₀ k₀ ks₀ ls₀ ar₀ ks ls ar q c used i s.run turn f row 0 (omega arith) long fresh_head n does b eb y

        pub step_short : b ≡ false → (ar' : List ℕ) → ar' ≡ paste ar used (drop 2 f.«data») n → (v : ℕ) → v ≡ kind_number MessageComplete → Stands (set ks i v) (set ls i n) ar' q keys owners lasts c (used + n) (i + 1)
        step_short y ar' ear v ev =
            let does = seeks_short kind mode l f q c s.run.whole long all fresh_head s.possible keys owners lasts s.mirrors keyed t et (frame_key f) refl g eg past n en some in
            record {
              run = goes_short (rules_by kind mode) l w p₀ k₀ ks₀ ls₀ ar₀ ks ls ar q c used i s.run turn f row 0 (omega arith) long fresh_head n does b eb y ar' ear v ev;
              own = s.own;
              possible = s.possible;
              mirrors = s.mirrors;
            }

    -- a slot
    module _ (low : g < pool_limit) (e : Head) where
      module _ (b : Bool) (eb : b ≡ runs_on f (get_or q.heads g e)) (y : b ≡ true) where
        runs : Does f q c (run_plan f (get_or q.heads g e)) g (receive_of (rules_by kind mode) l f q c)
        runs = seeks_running kind mode l f q c s.run.whole long all e s.possible keys owners lasts s.mirrors keyed t et (frame_key f) refl g eg low b eb y

        pub runs_fit : (get_or q.heads g e).current_size + 7 ≤ 223
        unfolding run_plan
        runs_fit = runs.fits.room

        pub step_running : (h : Head) → h ≡ copied_head f (get_or q.heads g e) → (bs : List ℕ) → bs ≡ paste q.bytes (g * 223 + (get_or q.heads g e).current_size) (drop 1 f.«data») 7
            → (v : ℕ) → v ≡ kind_number FragmentConsumed → Stands (set ks i v) (set ls i 0) ar (record { kind = q.kind; mode = q.mode; size = q.size; heads = set q.heads g h; bytes = bs }) keys owners (set lasts g f.now_ms) c used (i + 1)
        step_running h eh bs ebs v ev =
            record {
              run = goes_running (rules_by kind mode) l w p₀ k₀ ks₀ ls₀ ar₀ ks ls ar q c used i s.run turn f row g low long e runs h eh bs ebs v ev;
              own = s.own;
              possible = runs_possible kind mode l f q c s.run.whole long range.byte fits s.possible e g runs h eh bs ebs;
              mirrors = mirrors_run q.heads keys owners lasts f e g low h eh s.run.whole.heads s.mirrors;
            }

      module _ (d : Plan) (ed : d ≡ plan_of false true true (silent_by mode) f (get_or q.heads g e)) where
        does : Does f q c d g (receive_of (rules_by kind mode) l f q c)
        does = seeks_slot kind mode l f q c s.run.whole long all e s.possible keys owners lasts s.mirrors keyed t et (frame_key f) refl g eg low d ed

        alone : d.short ≡ 0
        alone = slot_alone kind mode l f q c s.run.whole long all e s.possible keys owners lasts s.mirrors keyed t et (frame_key f) refl g eg low d _ ed

        pub plan_fits : Fits d
        plan_fits = does.fits

        module _ (b : Bool) (eb : b ≡ ltb (length ar) (used + d.whole)) where
          pub stop_by : b ≡ true → Ends ks ls ar q c used i
          stop_by y = stops_by (rules_by kind mode) l w p₀ k₀ ks₀ ls₀ ar₀ ks ls ar q c used i s.run turn f row g low long e d does alone b eb y

          pub step_by : b ≡ false → (bs : List ℕ) → bs ≡ paste q.bytes (g * 223 + d.at) (drop d.from f.«data») d.count → (ar' : List ℕ) → ar' ≡ paste ar used (drop (g * 223) bs) d.whole
              → (v : ℕ) → v ≡ kind_number d.kind → (m : Counters) → m ≡ raised d.mark c
              → (keys' owners' lasts' : List ℕ) → keys' ≡ set keys g (key_number d.head) → owners' ≡ set owners g d.head.source_address → lasts' ≡ set lasts g d.head.last_seen_ms
              → InRange d.head.source_address d.head.pgn d.head.sequence_id
              → Stands (set ks i v) (set ls i d.whole) ar' (record { kind = q.kind; mode = q.mode; size = q.size; heads = set q.heads g d.head; bytes = bs }) keys' owners' lasts' m (used + d.whole) (i + 1)
          step_by y bs ebs ar' ear v ev m em keys' owners' lasts' kept owned seen within =
              record {
                run = goes_by (rules_by kind mode) l w p₀ k₀ ks₀ ls₀ ar₀ ks ls ar q c used i s.run turn f row g low long e d does alone b eb y bs ebs ar' ear m em v ev;
                own = s.own;
                possible = stays_possible kind mode l f q c s.run.whole long range.byte fits s.possible d g does bs ebs;
                mirrors =
                    rw (kept, owned, seen)
                    (mirrors_set q.heads keys owners lasts g low (key_number d.head) d.head.source_address d.head.last_seen_ms d.head s.run.whole.heads s.mirrors (record { key = refl; owner = refl; last = refl; range = within }));
              }
