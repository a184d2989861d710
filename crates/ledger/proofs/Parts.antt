-- The receive call with parts that can be changed, one line of the steps each; with the right parts it is the receive call itself.
-- Assumes nothing.
use mathlib.Core.Bool.{Bool, true, false}
use mathlib.Core.List.{List, [], ◌++◌}
use mathlib.Core.Path.{◌≡◌, refl, ap}
use Prim.Native.Nat.{ℕ}
use lib.ListN.{take, drop, set}
use Rattle.base.specs.Answer.{gives, refuses}
use Rattle.session.specs.declared.Heard.{Heard}
use Rattle.session.specs.declared.Counters.{Counters}
use Rattle.std.specs.Prelude.{Some, None}
use Rattle.session.specs.declared.Counter.TheVariants.{Exhausted, Rejected, Lost, Unknown}
use Rattle.session.specs.Rules.{base}
use Rattle.session.specs.Frames.{size_of, first_bytes}
use Rattle.session.specs.Counting.{Mark, raised, expired_mark}
use Rattle.assembler.specs.declared.Pool.{Pool}
use Rattle.assembler.specs.Call.{Call}
use Rattle.assembler.specs.Slots.{Slot, Slots, within, slot_at, impossible, opened_slot, reset_slot, copied_slot}
use Rattle.assembler.specs.Step.{Event, not_listed, rejected, short_message, pool_full, opened, stray, broken, copied, completed, event_of, slots_after, mark_of, Said, unlisted, bad_frame, no_slot, lost, ignored, consumed, message, said_of, Outcome, outcome, step_if, step}
use Rattle.assembler.specs.View.{slots_of, shown, receive_of}
use Rattle.ledger.specs.Assemblers.{Receive}

pub record Parts : Type 0 where
  -- the slot after a first frame opened it, and after a continuation was copied; the slots after a message was delivered at once; the slot after a frame out
  -- of turn, and after its message was delivered
  pub opening : Heard → Slot → Slot
  pub copying : Heard → Slot → Slot
  pub at_once : List Slot → List Slot
  pub breaking : Slot → Slot
  pub ending : Slot → Slot
  -- the counter of a stray
  pub straying : Mark
  -- the bytes delivered from a slot and the last frame
  pub delivering : Heard → Slot → List ℕ

unfoldable pub whole_of : Heard → Slot → List ℕ
whole_of f s = take s.head.expected_size (copied_slot f s).buffer

unfoldable pub untouched : List Slot → List Slot
untouched ss = ss

unfoldable pub right : Parts
right = record { opening = opened_slot; copying = copied_slot; at_once = untouched; breaking = reset_slot; ending = reset_slot; straying = Some Lost; delivering = whole_of }

unfoldable pub slots_by : Parts → Heard → List Slot → Event → List Slot
slots_by q f ss not_listed = ss
slots_by q f ss rejected = ss
slots_by q f ss short_message = q.at_once ss
slots_by q f ss pool_full = ss
slots_by q f ss (opened i late) = set ss i (q.opening f (slot_at ss i))
slots_by q f ss stray = ss
slots_by q f ss (broken i) = set ss i (q.breaking (slot_at ss i))
slots_by q f ss (copied i) = set ss i (q.copying f (slot_at ss i))
slots_by q f ss (completed i) = set ss i (q.ending (q.copying f (slot_at ss i)))

unfoldable pub mark_by : Parts → Event → Mark
mark_by q not_listed = Some Unknown
mark_by q rejected = Some Rejected
mark_by q short_message = None
mark_by q pool_full = Some Exhausted
mark_by q (opened i late) = expired_mark late
mark_by q stray = q.straying
mark_by q (broken i) = Some Lost
mark_by q (copied i) = None
mark_by q (completed i) = None

unfoldable pub said_by : Parts → Heard → List Slot → Event → Said
said_by q f ss not_listed = ignored unlisted
said_by q f ss rejected = ignored bad_frame
said_by q f ss short_message = message (take (size_of f) (first_bytes f))
said_by q f ss pool_full = ignored no_slot
said_by q f ss (opened i late) = consumed
said_by q f ss stray = ignored lost
said_by q f ss (broken i) = ignored lost
said_by q f ss (copied i) = consumed
said_by q f ss (completed i) = message (q.delivering f (slot_at ss i))

unfoldable pub outcome_by : Parts → Heard → Event → Slots → Counters → Outcome
outcome_by q f e p k =
    record {
      reply = gives (said_by q f (within p) e);
      pool = record { slots = slots_by q f (within p) e ++ drop p.size p.slots; size = p.size };
      counters = raised (mark_by q e) k;
    }

unfoldable pub step_by : Bool → Parts → Slots → Counters → Call → Outcome
step_by true q p k c = record { reply = refuses 1 []; pool = p; counters = k }
step_by false q p k c = outcome_by q c.heard (event_of base (within p) c) p k

-- the receive call with these parts
unfoldable pub by : Parts → Receive
by q pgns f p k = shown p.kind p.mode (step_by (impossible base (slots_of p)) q (slots_of p) k (record { pgns = pgns; heard = f }))

-- with the right parts it is the receive call itself
outcome_right : (f : Heard) (e : Event) (p : Slots) (k : Counters) → outcome_by right f e p k ≡ outcome f e p k
unfolding outcome_by outcome right slots_by slots_after mark_by mark_of said_by said_of whole_of untouched
outcome_right f not_listed p k = refl
outcome_right f rejected p k = refl
outcome_right f short_message p k = refl
outcome_right f pool_full p k = refl
outcome_right f (opened i late) p k = refl
outcome_right f stray p k = refl
outcome_right f (broken i) p k = refl
outcome_right f (copied i) p k = refl
outcome_right f (completed i) p k = refl

step_right : (b : Bool) (p : Slots) (k : Counters) (c : Call) → step_by b right p k c ≡ step_if b base p k c
unfolding step_by step_if
step_right true p k c = refl
step_right false p k c = outcome_right c.heard (event_of base (within p) c) p k

pub right_is : (pgns : List ℕ) (f : Heard) (p : Pool) (k : Counters) → by right pgns f p k ≡ receive_of base pgns f p k
unfolding by receive_of step
right_is pgns f p k = ap (shown p.kind p.mode) (step_right (impossible base (slots_of p)) (slots_of p) k (record { pgns = pgns; heard = f }))
