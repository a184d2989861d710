-- Demand 2: with the four read as Ignored, the answer, the pool and the counters of every call with eight bytes are the original's, and so are those of a call
-- with a length wherever no byte that is needed was cut. Assumes nothing.
use Prim.Native.Nat.{ℕ}
use mathlib.Core.Option.{Option, none, some}
use mathlib.Core.Path.{◌≡◌, refl, ap, ◌∙◌}
use mathlib.Core.Bool.{Bool, true, false, not, ◌&&◌, ◌||◌, true≢false}
use mathlib.Core.List.{List}
use lib.Dec.{eqb, leb}
use Rattle.base.specs.Pick.{pick}
use Rattle.base.proofs.Bools.{and_false}
use Rattle.session.specs.declared.Counters.{Counters}
use Rattle.session.specs.declared.Heard.{Heard}
use Rattle.session.specs.declared.Mode.{Mode}
use Rattle.session.specs.declared.Mode.TheVariants.{AsOriginal}
use Rattle.session.specs.declared.PoolKind.{PoolKind}
use Rattle.session.specs.declared.PoolKind.TheVariants as kind
use Rattle.session.specs.Rules.{Rules, original}
use Rattle.session.specs.Frames.{index_of, size_of, bad_size, is_empty, cut_first, bad_first}
use Rattle.session.specs.Heads.{in_turn, cut_next, is_next}
use Rattle.session.proofs.Cuts.{eight_sent, eight_first, eight_cut}
use Rattle.assembler.specs.declared.Arrival.{Arrival}
use Rattle.assembler.specs.Arrivals.{ArrivalWithLength}
use Rattle.assembler.specs.declared.Pool.{Pool}
use Rattle.assembler.specs.declared.Processed.{Processed}
use Rattle.assembler.specs.declared.Received.{Received}
use Rattle.assembler.specs.Call.{Call, listed}
use Rattle.assembler.specs.Slots.{Slot, Slots, within, slot_at, impossible, chosen, live}
use Rattle.assembler.specs.Step.{Event, not_listed, rejected, short_message, pool_full, opened, stray, broken, copied, completed, Outcome, opens_at, continues_at, event_of, message, said_of, outcome, step_if, step}
use Rattle.assembler.specs.View.{slots_of, pool_of, shown, receive_of}
use Rattle.assembler.specs.Arrivals.{heard_of, cut_to, heard_with_length}
use Rattle.assembler.specs.Promises.{at_original, ReceivesHeard, ProcessesHeard, Receives, ReceivesWithLength, Processes, ProcessesWithLength}
use Rattle.ledger.specs.Demand2.{continued_at, original_event, cut_at, needed_cut, whole, answer_of, Original, happens, original_if, original_of, as_ignored, read_reply, as_original}
use Rattle.assembler.specs.inner.Forms.{received_of}
use Rattle.assembler.proofs.Replies.{replied}
use Rattle.assembler.specs.OldKind.{has_part, any_head}
use Rattle.assembler.proofs.OldKind.{old_kind}

said_as : (f : Heard) (ss : List Slot) (e : Event) → as_ignored (said_of f ss e) ≡ answer_of f ss e
unfolding as_ignored said_of answer_of message whole
said_as f ss not_listed = refl
said_as f ss rejected = refl
said_as f ss short_message = refl
said_as f ss pool_full = refl
said_as f ss (opened i late) = refl
said_as f ss stray = refl
said_as f ss (broken i) = refl
said_as f ss (copied i) = refl
said_as f ss (completed i) = refl

-- an outcome of the steps, read
abbrev read_outcome : Outcome → Original
read_outcome o = record { answer = read_reply o.reply; pool = pool_of kind.Original AsOriginal o.pool; counters = o.counters }

-- ---- where no byte that is needed was cut, the event is that of document 01's own steps

whole_first : (a b : Bool) → (not a && b) ≡ false → (a || b) ≡ a
whole_first true b e = refl
whole_first false b e = e

whole_next : (a b : Bool) → (a && b) ≡ false → (a && not b) ≡ a
whole_next true b e = rw e
whole_next false b e = refl

module _ (R : Rules) (ss : List Slot) (c : Call) where
  next_as : (o : Option ℕ) → cut_at c.heard ss o ≡ false → continues_at c.heard ss o ≡ continued_at c.heard ss o
  unfolding cut_at continues_at continued_at is_next
  next_as none e = refl
  next_as (some i) e = rw (whole_next (in_turn c.heard (slot_at ss i).head) (cut_next c.heard (slot_at ss i).head) e)

  event_as : needed_cut R ss c ≡ false → event_of R ss c ≡ original_event R ss c
  unfolding needed_cut event_of original_event pick bad_first
  event_as e = go (listed c) (is_empty c.heard) (eqb (index_of c.heard) 0) e
    where
      X : Event
      X = pick (leb (size_of c.heard) 6) short_message (opens_at R c.heard ss (chosen R c.heard ss))

      go : (l n i : Bool) → (l && pick n true (pick i (not (bad_size c.heard) && cut_first c.heard) (cut_at c.heard ss (live R c.heard ss)))) ≡ false
          → pick l (pick n rejected (pick i (pick (bad_size c.heard || cut_first c.heard) rejected X) (continues_at c.heard ss (live R c.heard ss)))) not_listed
          ≡ pick l (pick i (pick (bad_size c.heard) rejected X) (continued_at c.heard ss (live R c.heard ss))) not_listed
      go false n i h = refl
      go true true i h = absurd (true≢false h)
      go true false true h = rw (whole_first (bad_size c.heard) (cut_first c.heard) h)
      go true false false h = next_as (live R c.heard ss) h

  -- a call with eight bytes is such a call
  cut_none : c.heard.length ≡ 8 → (o : Option ℕ) → cut_at c.heard ss o ≡ false
  unfolding cut_at
  cut_none eight none = refl
  cut_none eight (some i) = rw (eight_cut c.heard eight (slot_at ss i).head) (and_false (in_turn c.heard (slot_at ss i).head))

  pub none_cut : c.heard.length ≡ 8 → needed_cut R ss c ≡ false
  unfolding needed_cut pick
  none_cut eight =
      rw (eight_sent c.heard eight, eight_first c.heard eight, cut_none eight (live R c.heard ss), and_false (not (bad_size c.heard)), same (eqb (index_of c.heard) 0))
      (and_false (listed c))
    where
      same : (b : Bool) → pick b false false ≡ false
      same true = refl
      same false = refl

-- ---- one call

module _ (R : Rules) (p : Slots) (k : Counters) (c : Call) (whole : needed_cut R (within p) c ≡ false) where
  step_as : (b : Bool) → read_outcome (step_if b R p k c) ≡ original_if b R p k c
  unfolding step_if original_if read_reply
  step_as true = refl
  step_as false = unfold outcome happens in rw (event_as R (within p) c whole, said_as c.heard (within p) (original_event R (within p) c)) refl

-- a byte that the frame's call needs was cut
abbrev pub Cut : Rules → List ℕ → Heard → Pool → Bool
Cut R pgns f p = needed_cut R (within (slots_of p)) (record { pgns = pgns; heard = f })

-- what is shown of an outcome, of the original's kind and in its mode
shown_as : (d : PoolKind) (m : Mode) (o : Outcome) → d ≡ kind.Original → m ≡ AsOriginal → record { answer = read_reply o.reply; pool = (shown d m o).pool; counters = (shown d m o).counters } ≡ read_outcome o
unfolding shown
shown_as d m o own old = rw (own, old)

pub call_as : (R : Rules) (pgns : List ℕ) (f : Heard) (p : Pool) (k : Counters) → p.kind ≡ kind.Original → p.mode ≡ AsOriginal → Cut R pgns f p ≡ false → as_original (receive_of R pgns f p k) ≡ original_of R pgns f p k
unfolding as_original
call_as R pgns f p k own old whole =
    rw (replied R pgns f p k)
    (unfold receive_of step original_of in
    shown_as p.kind p.mode (step R (slots_of p) k (record { pgns = pgns; heard = f })) own old
    ∙ step_as R (slots_of p) k (record { pgns = pgns; heard = f }) whole (impossible R (slots_of p)))

all_sent : (pgns : List ℕ) (a : Arrival) (p : Pool) → Cut original pgns (heard_of a) p ≡ false
unfolding heard_of
all_sent pgns a p = none_cut original (within (slots_of p)) (record { pgns = pgns; heard = heard_of a }) refl

-- the frames of the old kind's entries have no part
of_part : (a : Arrival) → (heard_of a).part ≡ 0
unfolding heard_of
of_part a = refl

length_part : (x : ArrivalWithLength) → (heard_with_length x).part ≡ 0
unfolding heard_with_length cut_to heard_of
length_part x = refl

-- "Demand 2's equality with the Rust speaks of the old mode alone", and of the old kind: the pool is of the original's kind and in its mode, and no slot in
-- progress has a part, of which the original knows nothing; then the steps are the original's own, with a key of three parts
module _ {pgns : List ℕ} {p : Pool} {k : Counters} (own : p.kind ≡ kind.Original) (old : p.mode ≡ AsOriginal) (bare : any_head has_part (slots_of p) ≡ false) where
  heard_as : (f : Heard) {r : Received} → f.part ≡ 0 → Cut original pgns f p ≡ false → ReceivesHeard pgns (at_original p f) p k r → as_original r ≡ original_of original pgns f p k
  unfolding original
  heard_as f plain whole h = ap as_original ((old_kind AsOriginal).answers_stay pgns f p k own old bare plain h) ∙ call_as original pgns f p k own old whole

  heard_as_lent : (f : Heard) {r : Processed} {after : Counters} → f.part ≡ 0 → Cut original pgns f p ≡ false → ProcessesHeard pgns (at_original p f) p k r after
      → as_original (received_of r after) ≡ original_of original pgns f p k
  heard_as_lent f {r} {after} plain whole h = heard_as f plain whole (record { answer = h.answer; counted = h.counted })

  -- the theorem: eight bytes by value
  pub demand_2 : (a : Arrival) {r : Received} → Receives pgns a p k r → as_original r ≡ original_of original pgns (heard_of a) p k
  demand_2 a h = heard_as (heard_of a) (of_part a) (all_sent pgns a p) h

  -- with the counters lent
  pub demand_2_lent : (a : Arrival) {r : Processed} {after : Counters} → Processes pgns a p k r after → as_original (received_of r after) ≡ original_of original pgns (heard_of a) p k
  demand_2_lent a h = heard_as_lent (heard_of a) (of_part a) (all_sent pgns a p) h

  -- and with a length, the original being given the frame filled up
  pub demand_2_with_length : (x : ArrivalWithLength) {r : Received} → Cut original pgns (heard_with_length x) p ≡ false → ReceivesWithLength pgns x p k r
      → as_original r ≡ original_of original pgns (heard_with_length x) p k
  demand_2_with_length x whole h = heard_as (heard_with_length x) (length_part x) whole h

  pub demand_2_with_length_lent : (x : ArrivalWithLength) {r : Processed} {after : Counters} → Cut original pgns (heard_with_length x) p ≡ false → ProcessesWithLength pgns x p k r after
      → as_original (received_of r after) ≡ original_of original pgns (heard_with_length x) p k
  demand_2_with_length_lent x whole h = heard_as_lent (heard_with_length x) (length_part x) whole h
