-- One call, by document 01's steps: what happens (the event, and at which slot), what that does to the slots, which counter it marks, and what is answered.
use Rattle.std.specs.Prelude.{Some, None, Bool, true, false, List, [], ◌++◌, ℕ, ◌-◌, length, take, drop, set, replicate, eqb, leb}
use Rattle.std.proofs.Math.Option.{Option, none, some}
use Rattle.base.specs.Answer.{Answer, gives, refuses}
use Rattle.base.specs.Pick.{pick}
use Rattle.fast_packet.specs.FastPacket.{max_payload}
use Rattle.session.specs.declared.Heard.{Heard}
use Rattle.session.specs.declared.Counters.{Counters}
use Rattle.session.specs.declared.Counter.TheVariants.{Exhausted, Rejected, Lost, Unknown}
use Rattle.session.specs.Rules.{Rules}
use Rattle.session.specs.Frames.{index_of, size_of, first_bytes, is_empty, bad_first}
use Rattle.session.specs.Heads.{is_expired, is_next, copied_head, all_there}
use Rattle.session.specs.Counting.{Mark, raised, expired_mark}
use Rattle.assembler.specs.Call.{Call, listed}
use Rattle.assembler.specs.Slots.{Slot, Slots, within, slot_at, impossible, chosen, live, opened_slot, reset_slot, copied_slot}

-- ---- what happens

pub data Event : Type 0 where
  -- step 2: "PGN not listed"
  not_listed : Event
  -- step 3: announced 0 or over 223, or cut short, or no byte at all; a message of 1 to 6 bytes; no slot to take; slot i opened, and whether the message it
  -- held is late
  rejected short_message pool_full : Event
  opened : ℕ → Bool → Event
  -- step 4: no live slot with this key; slot i reset, by a frame out of turn or cut short; a fragment copied to slot i; and all is there
  stray : Event
  broken copied completed : ℕ → Event

-- step 3: "take .."; "else Ignored, pool_exhausted. A slot taken while in progress and silent over 500 counts in expired_sessions."
unfoldable pub opens_at : Rules → Heard → List Slot → Option ℕ → Event
opens_at R f ss none = pool_full
opens_at R f ss (some i) = opened i (is_expired R f (slot_at ss i).head)

-- step 4: "None: a stray .. Index not last index + 1: the slot is reset .. Otherwise copy ..; MessageComplete with reset when all is there, else
-- FragmentConsumed"; document 02, No. 5: one that "lacks a byte that the session needs breaks it, as one out of turn does"
unfoldable pub continues_at : Heard → List Slot → Option ℕ → Event
continues_at f ss none = stray
continues_at f ss (some i) =
    pick (is_next f (slot_at ss i).head)
    (pick (all_there (copied_head f (slot_at ss i).head)) (completed i) (copied i))
    (broken i)

-- steps 2 to 4, over the slots within the size: "PGN not listed"; "Index 0": "0 or over 223", "Size 1 to 6: MessageComplete at once .. Otherwise take";
-- "Index 1 to 31. Take the first in-progress slot with this key not silent over 500." Document 02, No. 5: "a listed frame of length 0, or a first frame of
-- length 1, is Rejected. So is a first frame with a good announced size n and a length below 2 + min(6, n)."
unfoldable pub event_of : Rules → List Slot → Call → Event
event_of R ss c =
    pick (listed c)
    (pick (is_empty c.heard) rejected
    (pick (eqb (index_of c.heard) 0)
    (pick (bad_first c.heard) rejected
    (pick (leb (size_of c.heard) 6) short_message
    (opens_at R c.heard ss (chosen R c.heard ss))))
    (continues_at c.heard ss (live R c.heard ss))))
    not_listed

-- ---- what that does to the slots

unfoldable pub slots_after : Heard → List Slot → Event → List Slot
slots_after f ss not_listed = ss
slots_after f ss rejected = ss
slots_after f ss short_message = ss
slots_after f ss pool_full = ss
slots_after f ss (opened i late) = set ss i (opened_slot f (slot_at ss i))
slots_after f ss stray = ss
slots_after f ss (broken i) = set ss i (reset_slot (slot_at ss i))
slots_after f ss (copied i) = set ss i (copied_slot f (slot_at ss i))
slots_after f ss (completed i) = set ss i (reset_slot (copied_slot f (slot_at ss i)))

-- ---- which counter it marks

unfoldable pub mark_of : Event → Mark
mark_of not_listed = Some Unknown
mark_of rejected = Some Rejected
mark_of short_message = None
mark_of pool_full = Some Exhausted
mark_of (opened i late) = expired_mark late
mark_of stray = Some Lost
mark_of (broken i) = Some Lost
mark_of (copied i) = None
mark_of (completed i) = None

-- ---- what is answered

-- why a frame is Ignored; document 02, No. 2: "answers tell NotListed, Rejected, PoolFull and Lost apart where it now says Ignored"
pub data Why : Type 0 where
  unlisted bad_frame no_slot lost : Why

pub data Said : Type 0 where
  ignored : Why → Said
  consumed : Said
  -- the payload, and its length
  complete : List ℕ → ℕ → Said

-- an answer by 01's table: one of these, or a refusal's number with what it carries
abbrev pub Reply : Type 0
Reply = Answer Said

-- "its bytes, zeros up to 223"
unfoldable pub padded : List ℕ → List ℕ
padded bytes = bytes ++ replicate (max_payload - length bytes) 0

-- "A complete message is its bytes, zeros up to 223, and its length"
unfoldable pub message : List ℕ → Said
message bytes = complete (padded bytes) (length bytes)

-- the answer follows from the event; Lost is the stray and the frame that breaks its session
unfoldable pub said_of : Heard → List Slot → Event → Said
said_of f ss not_listed = ignored unlisted
said_of f ss rejected = ignored bad_frame
said_of f ss short_message = message (take (size_of f) (first_bytes f))
said_of f ss pool_full = ignored no_slot
said_of f ss (opened i late) = consumed
said_of f ss stray = ignored lost
said_of f ss (broken i) = ignored lost
said_of f ss (copied i) = consumed
said_of f ss (completed i) = message (take (slot_at ss i).head.expected_size (copied_slot f (slot_at ss i)).buffer)

-- ---- one call

pub record Outcome : Type 0 where
  pub reply : Reply
  pub pool : Slots
  pub counters : Counters

-- "Slots past the size are ignored and kept."
unfoldable pub outcome : Heard → Event → Slots → Counters → Outcome
outcome f e p k =
    record {
      reply = gives (said_of f (within p) e);
      pool = record { slots = slots_after f (within p) e ++ drop p.size p.slots; size = p.size };
      counters = raised (mark_of e) k;
    }

-- step 1: "Refusal 1 if .."; "the pool comes back unchanged with 1"
unfoldable pub step_if : Bool → Rules → Slots → Counters → Call → Outcome
step_if true R p k c = record { reply = refuses 1 []; pool = p; counters = k }
step_if false R p k c = outcome c.heard (event_of R (within p) c) p k

unfoldable pub step : Rules → Slots → Counters → Call → Outcome
step R p k c = step_if (impossible R p) R p k c
