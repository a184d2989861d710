-- No entry of a batch's kinds is a refusal's: a possible pool stays possible, so each is from 102 to 107. Assumes nothing.
use Rattle.std.proofs.Common.{◌≡◌, ℕ, zero, suc, ◌+◌, ◌*◌, ◌<◌, ◌≤◌, Bool, true, false, ltb, List, [], ◌∷◌, ◌++◌, length, get_or, drop, refl, ap, subst, arith, length-drop, length-set, length-take-le, get_or-drop, get_or-take, ltb-true}
use Rattle.base.specs.Pick.{pick}
use Rattle.base.specs.Answer.{gives}
use Rattle.session.specs.declared.Heard.{Heard}
use Rattle.session.specs.declared.Plan.{Plan}
use Rattle.session.specs.declared.Counters.{Counters}
use Rattle.session.specs.Kinds.{kind_number}
use Rattle.session.specs.declared.Mode.{Mode}
use Rattle.session.specs.declared.PoolKind.{PoolKind}
use Rattle.session.specs.declared.PoolKind.TheVariants.{Original}
use Rattle.session.specs.Rules.{rules_by, pool_limit}
use Rattle.session.specs.Heads.{fresh_head}
use Rattle.session.specs.inner.Search.{within_limit}
use Rattle.session.proofs.SearchLaws.{same_limit}
use Rattle.assembler.specs.declared.Pool.{Pool}
use Rattle.assembler.specs.declared.Received.{Received}
use Rattle.assembler.specs.Slots.{impossible}
use Rattle.assembler.specs.Step.{unlisted, bad_frame, no_slot, lost, Said, ignored, consumed, complete, outcome, step_if, step}
use Rattle.assembler.specs.View.{slots_of, why_kind, reply_kind, shown, receive_of}
use Rattle.assembler.proofs.Views.{Whole}
use Rattle.assembler.proofs.Carries.{carried, Does, receives, slot_long}
use Rattle.batch.specs.Rows.{Rows, frame_in_rows, Run, empty_run, took, answer_in, run_from, run_of}
use Rattle.batch.proofs.Runs.{row_fits}
use Rattle.batch.proofs.Sought.{call_possible}

-- ---- one answer

-- FragmentConsumed, MessageComplete, NotListed, Rejected, PoolFull or Lost
abbrev pub OfFrame : ℕ → Type 0
OfFrame n = (102 ≤ n) × (n ≤ 107)

said_kind_lem : (s : Said) → OfFrame (kind_number (reply_kind (gives s)))
unfolding kind_number why_kind reply_kind
said_kind_lem (ignored unlisted) = (omega arith, omega arith)
said_kind_lem (ignored bad_frame) = (omega arith, omega arith)
said_kind_lem (ignored no_slot) = (omega arith, omega arith)
said_kind_lem (ignored lost) = (omega arith, omega arith)
said_kind_lem consumed = (omega arith, omega arith)
said_kind_lem (complete bytes n) = (omega arith, omega arith)

within_low : (i : ℕ) → within_limit i < pool_limit
unfolding within_limit
within_low i = go (ltb i pool_limit) refl
  where
    go : (b : Bool) → ltb i pool_limit ≡ b → pick b i 0 < pool_limit
    go true e = unfold pick in ltb-true i pool_limit e
    go false e = unfold pick in omega arith

module _ (kind : PoolKind) (mode : Mode) (l : List ℕ) (f : Heard) (p : Pool) (k : Counters) where
  answer_kind : impossible (rules_by kind mode) (slots_of p) ≡ false → OfFrame (kind_number (receive_of (rules_by kind mode) l f p k).kind)
  unfolding receive_of shown step
  answer_kind fine = rw fine (unfold step_if outcome in said_kind_lem _)

  does_whole : (d : Plan) (g : ℕ) → g < pool_limit → Whole p → length f.«data» ≡ 8 → Does f p k d g (receive_of (rules_by kind mode) l f p k) → Whole (receive_of (rules_by kind mode) l f p k).pool
  does_whole d g low w eight does =
      let is : (carried d g f p k).pool ≡ (receive_of (rules_by kind mode) l f p k).pool = ap (λ (a : Received). a.pool) does.is in
      subst Whole is (unfold carried in record { heads = simp length-set w.heads; bytes = slot_long _ f p w eight g d low does.fits refl })

  answer_whole : Whole p → length f.«data» ≡ 8 → Whole (receive_of (rules_by kind mode) l f p k).pool
  answer_whole w eight = does_whole _ _ (within_low _) w eight (receives (rules_by kind mode) f p k w eight fresh_head l (same_limit kind mode))

-- ---- all answers

-- every entry is the kind of a frame's answer
pub data Told : List ℕ → Type 0 where
  none : Told []
  more : {n : ℕ} {l : List ℕ} → OfFrame n → Told l → Told (n ∷ l)

told_last : {l : List ℕ} (n : ℕ) → Told l → OfFrame n → Told (l ++ (n ∷ []))
told_last n none h = more h none
told_last n (more a t) h = more a (told_last n t h)

module _ (kind : PoolKind) (mode : Mode) (own : kind ≡ Original) (l : List ℕ) (w : Rows) (bytes : (j : ℕ) → get_or w.bytes j 0 < 256) where
  frame_eight : (i : ℕ) → i * 8 + 8 ≤ length w.bytes → length (frame_in_rows w i).«data» ≡ 8
  unfolding frame_in_rows
  frame_eight i long = length-take-le 8 (drop (i * 8) w.bytes) (simp length-drop (omega arith))

  frame_byte : (i : ℕ) → get_or (frame_in_rows w i).«data» 0 0 < 256
  unfolding frame_in_rows
  frame_byte i = rw (get_or-take 8 (drop (i * 8) w.bytes) 0 0 (omega arith), get_or-drop (i * 8) w.bytes 0 0) (bytes (i * 8 + 0))

  told_from : (room n i : ℕ) (z : Run) → (i + n) * 8 ≤ length w.bytes → Whole z.pool → impossible (rules_by kind mode) (slots_of z.pool) ≡ false → Told z.kinds → Told (run_from (rules_by kind mode) l w room n i z).kinds
  unfolding run_from took answer_in pick
  told_from room zero i z long whole fine t = t
  told_from room (suc n) i z long whole fine t =
      let f : Heard = frame_in_rows w i in
      let a : Received = receive_of (rules_by kind mode) l f z.pool z.counters in
      let eight : length f.«data» ≡ 8 = frame_eight i (omega (arith, long)) in
      let rest =
      told_from room n (suc i) (took z (answer_in (rules_by kind mode) l z f)) (omega (arith, long))
      (answer_whole kind mode l f z.pool z.counters whole eight)
      (call_possible kind mode l f z.pool z.counters whole eight (frame_byte i) (row_fits kind mode own l w i f refl) fine)
      (told_last _ t (answer_kind kind mode l f z.pool z.counters fine)) in
      go (ltb room (length z.messages + (answer_in (rules_by kind mode) l z f).length)) rest
    where
      go : (b : Bool) → Told (run_from (rules_by kind mode) l w room n (suc i) (took z (answer_in (rules_by kind mode) l z (frame_in_rows w i)))).kinds
          → Told (pick b z (run_from (rules_by kind mode) l w room n (suc i) (took z (answer_in (rules_by kind mode) l z (frame_in_rows w i))))).kinds
      go true r = t
      go false r = r

  -- rows of bytes, a whole and possible pool: every kind is from 102 to 107
  pub told : (room : ℕ) (p : Pool) (k : Counters) → length w.times * 8 ≤ length w.bytes → Whole p → impossible (rules_by kind mode) (slots_of p) ≡ false → Told (run_of (rules_by kind mode) l w room p k).kinds
  unfolding run_of empty_run
  told room p k long whole fine = told_from room (length w.times) 0 (empty_run p k) (omega (arith, long)) whole fine none
