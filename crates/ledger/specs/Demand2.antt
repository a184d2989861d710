-- Demand 2 after document 02's No. 2, "Demand 2 then reads the four as Ignored", its No. 5, of frames of which no byte that is needed was cut, its No. 10,
-- "Demand 2's equality with the Rust speaks of the old mode alone", and its No. 12, "demand 2's equality with the Rust speaks of the old kind".
-- Document 01's own steps and answers, which are the original's, stand here for that reading alone; no contract cites this file.
use Rattle.std.specs.Prelude.{Bool, true, false, not, ◌&&◌, List, [], ◌++◌, ℕ, length, take, drop, eqb, leb}
use Rattle.std.proofs.Math.Option.{Option, none, some}
use Rattle.base.specs.Answer.{Answer, gives, refuses}
use Rattle.base.specs.Pick.{pick}
use Rattle.session.specs.declared.Heard.{Heard}
use Rattle.session.specs.declared.Counters.{Counters}
use Rattle.session.specs.declared.Mode.TheVariants.{AsOriginal}
use Rattle.session.specs.declared.PoolKind.TheVariants as kind
use Rattle.session.specs.Rules.{Rules}
use Rattle.session.specs.Frames.{index_of, size_of, bad_size, first_bytes, is_empty, cut_first}
use Rattle.session.specs.Heads.{in_turn, cut_next, copied_head, all_there}
use Rattle.session.specs.Counting.{raised}
use Rattle.assembler.specs.declared.Pool.{Pool}
use Rattle.assembler.specs.declared.Received.{Received}
use Rattle.assembler.specs.Call.{Call, listed}
use Rattle.assembler.specs.Slots.{Slot, Slots, within, slot_at, impossible, chosen, live, copied_slot}
use Rattle.assembler.specs.Step.{Event, not_listed, rejected, short_message, pool_full, opened, stray, broken, copied, completed, opens_at, slots_after, mark_of, Said, padded}
use Rattle.assembler.specs.Step as now
use Rattle.assembler.specs.View.{slots_of, pool_of, reply_of}

-- ---- document 01's steps, in its own words: they know no length, and the original takes eight bytes

-- step 4: "None: a stray .. Index not last index + 1: the slot is reset .. Otherwise copy ..; MessageComplete with reset when all is there, else FragmentConsumed"
unfoldable pub continued_at : Heard → List Slot → Option ℕ → Event
continued_at f ss none = stray
continued_at f ss (some i) =
    pick (in_turn f (slot_at ss i).head)
    (pick (all_there (copied_head f (slot_at ss i).head)) (completed i) (copied i))
    (broken i)

-- "PGN not listed"; "Index 0": "0 or over 223", "Size 1 to 6: MessageComplete at once .. Otherwise take"; "Index 1 to 31. Take the first .."
unfoldable pub original_event : Rules → List Slot → Call → Event
original_event R ss c =
    pick (listed c)
    (pick (eqb (index_of c.heard) 0)
    (pick (bad_size c.heard) rejected
    (pick (leb (size_of c.heard) 6) short_message
    (opens_at R c.heard ss (chosen R c.heard ss))))
    (continued_at c.heard ss (live R c.heard ss)))
    not_listed

-- ---- document 01's answers, in its own words

pub data Answered : Type 0 where
  Ignored FragmentConsumed : Answered
  -- the payload, and its length
  MessageComplete : List ℕ → ℕ → Answered

-- "A complete message is its bytes, zeros up to 223, and its length"
unfoldable pub whole : List ℕ → Answered
whole bytes = MessageComplete (padded bytes) (length bytes)

-- step 2: "PGN not listed: Ignored"; step 3: "0 or over 223: Ignored", "Size 1 to 6: MessageComplete at once", "else Ignored", "Then it opens: ..
-- FragmentConsumed"; step 4: "a stray, Ignored", "the slot is reset .., Ignored", "MessageComplete with reset when all is there, else FragmentConsumed"
unfoldable pub answer_of : Heard → List Slot → Event → Answered
answer_of f ss not_listed = Ignored
answer_of f ss rejected = Ignored
answer_of f ss short_message = whole (take (size_of f) (first_bytes f))
answer_of f ss pool_full = Ignored
answer_of f ss (opened i late) = FragmentConsumed
answer_of f ss stray = Ignored
answer_of f ss (broken i) = Ignored
answer_of f ss (copied i) = FragmentConsumed
answer_of f ss (completed i) = whole (take (slot_at ss i).head.expected_size (copied_slot f (slot_at ss i)).buffer)

-- what a call answers, or its refusal; the pool and the counters after it
pub record Original : Type 0 where
  pub answer : Answer Answered
  pub pool : Pool
  pub counters : Counters

-- steps 2 to 4 by their event, on the slots within the size; those past it are kept; the original knows one kind and one mode
unfoldable pub happens : Event → Heard → Slots → Counters → Original
happens e f p k =
    record {
      answer = gives (answer_of f (within p) e);
      pool = pool_of kind.Original AsOriginal (record { slots = slots_after f (within p) e ++ drop p.size p.slots; size = p.size });
      counters = raised (mark_of e) k;
    }

-- step 1 comes first: "the pool comes back unchanged with 1"
unfoldable pub original_if : Bool → Rules → Slots → Counters → Call → Original
original_if true R p k c = record { answer = refuses 1 []; pool = pool_of kind.Original AsOriginal p; counters = k }
original_if false R p k c = happens (original_event R (within p) c) c.heard p k

unfoldable pub original_of : Rules → List ℕ → Heard → Pool → Counters → Original
original_of R pgns f p k = original_if (impossible R (slots_of p)) R (slots_of p) k (record { pgns = pgns; heard = f })

-- ---- where document 02's No. 5 parts from it: a byte that is needed was cut

-- of a continuation: one that its live session needs, and waits for
unfoldable pub cut_at : Heard → List Slot → Option ℕ → Bool
cut_at f ss none = false
cut_at f ss (some i) = in_turn f (slot_at ss i).head && cut_next f (slot_at ss i).head

-- of a listed frame: its first byte; of a first frame with a good size: a byte of the message (cut before its size, that is filled up as 255, and both reject it)
unfoldable pub needed_cut : Rules → List Slot → Call → Bool
needed_cut R ss c =
    listed c
    && pick (is_empty c.heard) true
    (pick (eqb (index_of c.heard) 0) (not (bad_size c.heard) && cut_first c.heard) (cut_at c.heard ss (live R c.heard ss)))

-- ---- the reading

-- the four are Ignored
unfoldable pub as_ignored : Said → Answered
as_ignored (now.ignored why) = Ignored
as_ignored now.consumed = FragmentConsumed
as_ignored (now.complete bytes n) = MessageComplete bytes n

unfoldable pub read_reply : Answer Said → Answer Answered
read_reply (gives s) = gives (as_ignored s)
read_reply (refuses n carried) = refuses n carried

-- an answer of the receive call as the original has it
unfoldable pub as_original : Received → Original
as_original r = record { answer = read_reply (reply_of r); pool = r.pool; counters = r.counters }
