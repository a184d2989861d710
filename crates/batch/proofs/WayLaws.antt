-- The cases of the ways that most frames go, as the code meets them, and the plans that they stand for. Assumes nothing.
use Rattle.std.proofs.Common.{◌≡◌, ℕ, ◌+◌, ◌-◌, ◌%◌, ◌<◌, ◌≤◌, Bool, true, false, eqb, ltb, leb, get_or, sym, refl, ◌∙◌, true≢false, arith, ltb-true, le-ltb, eq-eqb, ne_eqb, eqb-true, le-leb, leb-true}
use borrow.Author.Tests.{lt-leb}
use Rattle.base.specs.Pick.{pick}
use Rattle.session.specs.declared.Heard.{Heard}
use Rattle.session.specs.declared.Head.{Head}
use Rattle.session.specs.declared.Plan.{Plan}
use Rattle.session.specs.declared.Kind.TheVariants.{NotListed, Rejected, PoolFull, Lost, FragmentConsumed, MessageComplete}
use Rattle.std.specs.Prelude.{Some, None}
use Rattle.session.specs.declared.Counter.TheVariants as counter
use Rattle.session.specs.Frames.{index_of, size_of, bad_size}
use Rattle.session.specs.Heads.{in_turn, wanted, copied_head, all_there}
use Rattle.session.specs.inner.Plan.{Silent, idle, plan_open, plan_short, plan_sized, plan_first, plan_copy, plan_turn, plan_next, plan_index, plan_sent, plan_listed, plan_of}
use Rattle.base.proofs.Bools.{and_left, and_right}
use Rattle.session.proofs.Cuts.{eight_sent, eight_bad, eight_next}
use Rattle.batch.specs.inner.Ways.{short_in, miss_kind, miss_mark, runs_on}

-- ---- the code's tests

module _ (listed : Bool) (f : Heard) where
  pub short_unlisted : listed ≡ false → (0 ≡ short_in listed f) × (0 ≤ 6)
  unfolding short_in pick
  short_unlisted e = (rw (e), omega arith)

  pub miss_unlisted : listed ≡ false → (NotListed ≡ miss_kind listed f) × (Some counter.Unknown ≡ miss_mark listed f)
  unfolding miss_kind miss_mark pick
  miss_unlisted e = (rw e, rw e)

  module _ (e : listed ≡ true) where
    pub short_next : (get_or f.«data» 0 0 % 32 ≡ 0 → ⊥) → (0 ≡ short_in listed f) × (0 ≤ 6)
    unfolding short_in pick index_of
    short_next z = (rw (e, ne_eqb (get_or f.«data» 0 0 % 32) 0 z), omega arith)

    pub miss_next : (get_or f.«data» 0 0 % 32 ≡ 0 → ⊥) → (Lost ≡ miss_kind listed f) × (Some counter.Lost ≡ miss_mark listed f)
    unfolding miss_kind miss_mark pick index_of
    miss_next z = (rw (e, ne_eqb (get_or f.«data» 0 0 % 32) 0 z), rw (e, ne_eqb (get_or f.«data» 0 0 % 32) 0 z))

    module _ (z : get_or f.«data» 0 0 % 32 ≡ 0) where
      pub short_here : get_or f.«data» 1 0 ≤ 6 → (get_or f.«data» 1 0 ≡ short_in listed f) × (get_or f.«data» 1 0 ≤ 6)
      unfolding short_in pick index_of size_of
      short_here l = (rw (e, eq-eqb (get_or f.«data» 0 0 % 32) 0 z, le-leb (get_or f.«data» 1 0) 6 l), l)

      pub short_over : 6 < get_or f.«data» 1 0 → (0 ≡ short_in listed f) × (0 ≤ 6)
      unfolding short_in pick index_of size_of
      short_over l = (rw (e, eq-eqb (get_or f.«data» 0 0 % 32) 0 z, lt-leb (get_or f.«data» 1 0) 6 l), omega arith)

      pub miss_bad : bad_size f ≡ true → (Rejected ≡ miss_kind listed f) × (Some counter.Rejected ≡ miss_mark listed f)
      unfolding miss_kind miss_mark pick index_of
      miss_bad b = (rw (e, eq-eqb (get_or f.«data» 0 0 % 32) 0 z, b), rw (e, eq-eqb (get_or f.«data» 0 0 % 32) 0 z, b))

      pub miss_full : bad_size f ≡ false → (PoolFull ≡ miss_kind listed f) × (Some counter.Exhausted ≡ miss_mark listed f)
      unfolding miss_kind miss_mark pick index_of
      miss_full b = (rw (e, eq-eqb (get_or f.«data» 0 0 % 32) 0 z, b), rw (e, eq-eqb (get_or f.«data» 0 0 % 32) 0 z, b))

module _ (f : Heard) (h : Head) where
  pub runs_other : (get_or f.«data» 0 0 % 32 ≡ h.last_frame_index + 1 → ⊥) → false ≡ runs_on f h
  unfolding runs_on in_turn index_of
  runs_other n = rw (ne_eqb (get_or f.«data» 0 0 % 32) (h.last_frame_index + 1) n)

  module _ (e : get_or f.«data» 0 0 % 32 ≡ h.last_frame_index + 1) where
    pub runs_next : ltb 7 (h.expected_size - h.current_size) ≡ runs_on f h
    unfolding runs_on in_turn index_of
    runs_next = rw (eq-eqb (get_or f.«data» 0 0 % 32) (h.last_frame_index + 1) e)

pub ruleset ways = (short_unlisted, miss_unlisted, short_next, miss_next, short_here, short_over, miss_bad, miss_full, runs_other, runs_next)

-- ---- the plans of these ways

module _ (f : Heard) (h : Head) where
  -- a message in one frame
  unfoldable pub short_plan : ℕ → Plan
  short_plan n = record { kind = MessageComplete; mark = None; head = h; at = 0; from = 0; count = 0; whole = 0; short = n }

  -- seven bytes more
  unfoldable pub run_plan : Plan
  run_plan = record { kind = FragmentConsumed; mark = None; head = copied_head f h; at = h.current_size; from = 1; count = 7; whole = 0; short = 0 }

module _ (S : Silent) (f : Heard) (h : Head) where
  none_bad : 0 ≡ size_of f → bad_size f ≡ true
  unfolding bad_size
  none_bad z = rw (eq-eqb (size_of f) 0 (sym z))

  miss_sized : (b s : Bool) → bad_size f ≡ b → leb (size_of f) 6 ≡ s → 0 ≡ pick s (size_of f) 0 → plan_sized b false S f h ≡ idle (pick b Rejected PoolFull) (pick b (Some counter.Rejected) (Some counter.Exhausted)) h
  unfolding plan_sized plan_short plan_open pick
  miss_sized true s eb es z = refl
  miss_sized false true eb es z = absurd (true≢false (sym (none_bad z) ∙ eb))
  miss_sized false false eb es z = rw es

  short_sized : (s : Bool) → leb (size_of f) 6 ≡ s → (pick s (size_of f) 0 ≡ 0 → ⊥) → plan_sized (bad_size f) false S f h ≡ short_plan f h (pick s (size_of f) 0)
  unfolding plan_sized plan_short short_plan pick bad_size
  short_sized true es n = rw (ne_eqb (size_of f) 0 n, le-ltb 223 (size_of f) (omega (arith, leb-true (size_of f) 6 es)), es)
  short_sized false es n = absurd (n refl)

-- a frame that runs on
module _ (f : Heard) (h : Head) where
  run_turn : runs_on f h ≡ true → in_turn f h ≡ true
  unfolding runs_on
  run_turn e = and_left (in_turn f h) _ e

  pub run_missing : runs_on f h ≡ true → 7 < h.expected_size - h.current_size
  unfolding runs_on
  run_missing e = ltb-true 7 (h.expected_size - h.current_size) (and_right (in_turn f h) _ e)

  run_seven : runs_on f h ≡ true → wanted h ≡ 7
  unfolding wanted
  run_seven e = omega (arith, run_missing e)

  run_later : runs_on f h ≡ true → eqb (index_of f) 0 ≡ false
  unfolding in_turn
  run_later e =
      let index : index_of f ≡ h.last_frame_index + 1 = eqb-true (index_of f) (h.last_frame_index + 1) (run_turn e) in
      ne_eqb (index_of f) 0 (λ z. absurd (omega (arith, z, index)))

  run_more : runs_on f h ≡ true → all_there (copied_head f h) ≡ false
  unfolding all_there copied_head
  run_more e = rw (run_seven e) (lt-leb h.expected_size (h.current_size + 7) (omega (arith, run_missing e)))

-- a row has all eight bytes of its frames
module _ (S : Silent) (f : Heard) (all : f.length ≡ 8) (h : Head) where
  -- no slot and no message: a counter, and nothing else
  miss_index : (b : Bool) → eqb (index_of f) 0 ≡ b → 0 ≡ pick b (pick (leb (size_of f) 6) (size_of f) 0) 0 → plan_index b false S f h
      ≡ idle (pick b (pick (bad_size f) Rejected PoolFull) Lost) (pick b (pick (bad_size f) (Some counter.Rejected) (Some counter.Exhausted)) (Some counter.Lost)) h
  unfolding plan_index plan_first plan_next pick
  miss_index true eb z = rw (eight_bad f all) (miss_sized S f h (bad_size f) (leb (size_of f) 6) refl refl z)
  miss_index false eb z = refl

  pub plan_missed : (t : Bool) → 0 ≡ short_in t f → plan_of false t false S f h ≡ idle (miss_kind t f) (miss_mark t f) h
  unfolding plan_of plan_listed plan_sent short_in miss_kind miss_mark pick
  plan_missed true z = rw (eight_sent f all) (miss_index (eqb (index_of f) 0) refl z)
  plan_missed false z = refl

  short_index : (b : Bool) → eqb (index_of f) 0 ≡ b → (pick b (pick (leb (size_of f) 6) (size_of f) 0) 0 ≡ 0 → ⊥) → plan_index b false S f h ≡ short_plan f h (pick b (pick (leb (size_of f) 6) (size_of f) 0) 0)
  unfolding plan_index plan_first pick
  short_index true eb n = rw (eight_bad f all) (short_sized S f h (leb (size_of f) 6) refl n)
  short_index false eb n = absurd (n refl)

  pub plan_short_lem : (t : Bool) → (short_in t f ≡ 0 → ⊥) → plan_of false t false S f h ≡ short_plan f h (short_in t f)
  unfolding plan_of plan_listed plan_sent short_in pick
  plan_short_lem true n = rw (eight_sent f all) (short_index (eqb (index_of f) 0) refl n)
  plan_short_lem false n = absurd (n refl)

  pub plan_runs : runs_on f h ≡ true → plan_of false true true S f h ≡ run_plan f h
  unfolding plan_of plan_listed plan_sent plan_index plan_next plan_turn plan_copy run_plan
  plan_runs e = rw (eight_sent f all, run_later f h e, eight_next f all h, run_turn f h e, run_more f h e, run_seven f h e)
