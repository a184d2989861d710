-- Bytes that were not sent make no difference: two frames that differ in such bytes alone have one outcome, on every pool: the same answer, slots, buffers and
-- counters. So it does not matter with what a frame is filled up. Assumes nothing.
use Prim.Native.Nat.{ℕ, ◌+◌, ◌/◌, ◌%◌, ◌≤◌, ◌<◌, min}
use mathlib.Core.Path.{◌≡◌, refl, sym, ap, ◌∙◌}
use mathlib.Core.Bool.{Bool, true, false, not, ◌&&◌}
use mathlib.Core.Option.{Option, none, some}
use mathlib.Core.List.{List}
use lib.ListN.{get_or, take, drop}
use lib.Seq.{get_or-take}
use lib.Dec.{eqb, leb}
use native.Mathlib.Omega.{arith}
use borrow.Author.Tests.{lt-ltb, eqb-false, leb-true, leb-false}
use Rattle.base.specs.Pick.{pick}
use Rattle.base.specs.Lists.{first_at, or_else}
use Rattle.base.proofs.Bools.{or_true}
use Rattle.base.proofs.Cases.{less?, pick_both}
use Rattle.session.specs.declared.Counters.{Counters}
use Rattle.session.specs.declared.Head.{Head}
use Rattle.session.specs.declared.Heard.{Heard}
use Rattle.session.specs.Rules.{Rules, Key}
use Rattle.session.specs.Frames.{sequence_of, index_of, size_of, first_bytes, next_bytes, key_of, bad_size, is_empty, cut_first, bad_first}
use Rattle.session.specs.Heads.{head_key, has_key, is_free, is_free_of_source, is_silent, has_live_key, is_expired, opened_head, wanted, in_turn, cut_next, is_next, copied_head, all_there}
use Rattle.session.proofs.Cuts.{sent_part, first_sent, next_sent}
use Rattle.assembler.specs.Call.{Call, listed}
use Rattle.assembler.specs.Slots.{Slot, Slots, within, slot_at, on_head, impossible, chosen, live, opened_slot, copied_slot}
use Rattle.assembler.specs.Step.{Event, rejected, short_message, copied, completed, opens_at, continues_at, event_of, slots_after, mark_of, said_of, outcome, step_if, step}

module _ (now pgn source part sent : ℕ) where
  -- the frame with these eight bytes, of which the first `sent` were sent
  abbrev frame : List ℕ → Heard
  frame bytes = record { now_ms = now; pgn = pgn; source_address = source; part = part; «data» = bytes; length = sent }

  module _ (d e : List ℕ) (same : take sent d ≡ take sent e) where
    byte_same : (i : ℕ) → i < sent → get_or d i 0 ≡ get_or e i 0
    byte_same i h = sym (get_or-take sent d i 0 h) ∙ ap (λ (l : List ℕ). get_or l i 0) same ∙ get_or-take sent e i 0 h

    part_same : (k w : ℕ) → k + w ≤ sent → take w (drop k d) ≡ take w (drop k e)
    part_same k w h = sym (sent_part k w sent d h) ∙ ap (λ (l : List ℕ). take w (drop k l)) same ∙ sent_part k w sent e h

    -- both do the same
    record Alike (ss : List Slot) (a b : Event) : Type 0 where
      slots : slots_after (frame d) ss a ≡ slots_after (frame e) ss b
      said : said_of (frame d) ss a ≡ said_of (frame e) ss b
      mark : mark_of a ≡ mark_of b

    alike_rejected : (ss : List Slot) → Alike ss rejected rejected
    unfolding slots_after said_of
    alike_rejected ss = record { slots = refl; said = refl; mark = refl }

    -- with two bytes sent the announced size is the same
    size_same : 2 ≤ sent → size_of (frame d) ≡ size_of (frame e)
    unfolding size_of
    size_same two = byte_same 1 two

    -- and with less a first frame is bad whatever it announces
    one_bad : sent < 2 → (bytes : List ℕ) → bad_first (frame bytes) ≡ true
    unfolding bad_first cut_first
    one_bad few bytes = rw (lt-ltb sent (2 + min 6 (size_of (frame bytes))) (omega (arith, few))) (or_true (bad_size (frame bytes)))

    bad_same : bad_first (frame d) ≡ bad_first (frame e)
    bad_same = less? sent 2 (λ few. one_bad few d ∙ sym (one_bad few e)) (λ two. unfold bad_first bad_size cut_first in rw (size_same two))

    -- ---- a first frame, good by itself
    module _ (R : Rules) (ss : List Slot) (one : 0 < sent) where
      sequence_same : sequence_of (frame d) ≡ sequence_of (frame e)
      unfolding sequence_of
      sequence_same = ap (λ (b : ℕ). b / 32) (byte_same 0 one)

      index_same : index_of (frame d) ≡ index_of (frame e)
      unfolding index_of
      index_same = ap (λ (b : ℕ). b % 32) (byte_same 0 one)

      key_same : key_of (frame d) ≡ key_of (frame e)
      unfolding key_of
      key_same = rw sequence_same

      chosen_same : chosen R (frame d) ss ≡ chosen R (frame e) ss
      unfolding chosen has_key is_free_of_source is_free is_silent
      chosen_same =
          ap (λ (k : Key). or_else (first_at (λ (s : Slot). s.head.in_progress && R.same_key (head_key s.head) k) ss) (or_else (first_at (on_head (is_free_of_source R (frame e))) ss) (first_at (on_head (is_free R (frame e))) ss)))
          key_same

      module _ (whole : 2 + min 6 (size_of (frame e)) ≤ sent) where
        alike_short : size_of (frame e) ≤ 6 → Alike ss short_message short_message
        unfolding slots_after said_of first_bytes
        alike_short small = record { slots = refl; said = rw (size_same (omega (arith, whole)), part_same 2 (size_of (frame e)) (omega (arith, whole, small))); mark = refl }

        opened_same : 6 < size_of (frame e) → (s : Slot) → opened_slot (frame d) s ≡ opened_slot (frame e) s
        unfolding opened_slot opened_head first_bytes
        opened_same long s = rw (sequence_same, size_same (omega (arith, whole)), part_same 2 6 (omega (arith, whole, long)))

        alike_open : 6 < size_of (frame e) → (o : Option ℕ) → Alike ss (opens_at R (frame d) ss o) (opens_at R (frame e) ss o)
        unfolding opens_at slots_after said_of is_expired is_silent
        alike_open long none = record { slots = refl; said = refl; mark = refl }
        alike_open long (some i) = record { slots = rw (opened_same long (slot_at ss i)); said = refl; mark = refl }

        alike_good : Alike ss (pick (leb (size_of (frame d)) 6) short_message (opens_at R (frame d) ss (chosen R (frame d) ss)))
            (pick (leb (size_of (frame e)) 6) short_message (opens_at R (frame e) ss (chosen R (frame e) ss)))
        alike_good =
            rw (size_same (omega (arith, whole)), chosen_same)
            (pick_both (Alike ss) (leb (size_of (frame e)) 6) (λ short. alike_short (leb-true (size_of (frame e)) 6 short)) (λ long. alike_open (leb-false (size_of (frame e)) 6 long) (chosen R (frame e) ss)))

      -- ---- a continuation
      live_same : live R (frame d) ss ≡ live R (frame e) ss
      unfolding live has_live_key has_key is_silent
      live_same = ap (λ (k : Key). first_at (λ (s : Slot). (s.head.in_progress && R.same_key (head_key s.head) k) && not (R.silent now s.head.last_seen_ms)) ss) key_same

      copied_head_same : (h : Head) → copied_head (frame d) h ≡ copied_head (frame e) h
      unfolding copied_head
      copied_head_same h = rw index_same

      next_same : (h : Head) → is_next (frame d) h ≡ is_next (frame e) h
      unfolding is_next in_turn cut_next
      next_same h = rw index_same

      module _ (i : ℕ) (turn : is_next (frame e) (slot_at ss i).head ≡ true) where
        copied_same : copied_slot (frame d) (slot_at ss i) ≡ copied_slot (frame e) (slot_at ss i)
        unfolding copied_slot next_bytes
        copied_same = rw (copied_head_same (slot_at ss i).head, part_same 1 (wanted (slot_at ss i).head) (next_sent (frame e) (slot_at ss i).head turn))

        alike_copy : (b : Bool) → Alike ss (pick b (completed i) (copied i)) (pick b (completed i) (copied i))
        unfolding pick slots_after said_of
        alike_copy true = record { slots = rw copied_same; said = rw copied_same; mark = refl }
        alike_copy false = record { slots = rw copied_same; said = refl; mark = refl }

      alike_next : (o : Option ℕ) → Alike ss (continues_at (frame d) ss o) (continues_at (frame e) ss o)
      unfolding continues_at
      alike_next none = unfold slots_after said_of in record { slots = refl; said = refl; mark = refl }
      alike_next (some i) =
          rw (next_same (slot_at ss i).head, copied_head_same (slot_at ss i).head)
          (pick_both (Alike ss) (is_next (frame e) (slot_at ss i).head) (λ turn. alike_copy i turn (all_there (copied_head (frame e) (slot_at ss i).head)))
          (λ out. unfold slots_after said_of in record { slots = refl; said = refl; mark = refl }))

      -- ---- by the tests that a listed frame with a byte goes through
      alike_listed : Alike ss
          (pick (eqb (index_of (frame d)) 0) (pick (bad_first (frame d)) rejected (pick (leb (size_of (frame d)) 6) short_message (opens_at R (frame d) ss (chosen R (frame d) ss)))) (continues_at (frame d) ss (live R (frame d) ss)))
          (pick (eqb (index_of (frame e)) 0) (pick (bad_first (frame e)) rejected (pick (leb (size_of (frame e)) 6) short_message (opens_at R (frame e) ss (chosen R (frame e) ss)))) (continues_at (frame e) ss (live R (frame e) ss)))
      alike_listed =
          rw (index_same, bad_same, live_same)
          (pick_both (Alike ss) (eqb (index_of (frame e)) 0)
          (λ first. pick_both (Alike ss) (bad_first (frame e)) (λ bad. alike_rejected ss) (λ good. alike_good (first_sent (frame e) good)))
          (λ next. alike_next (live R (frame e) ss)))

    -- ---- one call
    module _ (R : Rules) (pgns : List ℕ) where
      abbrev call : List ℕ → Call
      call bytes = record { pgns = pgns; heard = frame bytes }

      alike : (ss : List Slot) → Alike ss (event_of R ss (call d)) (event_of R ss (call e))
      unfolding event_of is_empty
      alike ss =
          pick_both (Alike ss) (listed (call e))
          (λ yes. pick_both (Alike ss) (eqb sent 0) (λ none. alike_rejected ss) (λ some. alike_listed R ss (not_none (eqb-false sent 0 some))))
          (λ no. unfold slots_after said_of in record { slots = refl; said = refl; mark = refl })
        where
          not_none : (sent ≡ 0 → ⊥) → 0 < sent
          not_none n = less? 0 sent (λ h. h) (λ h. absurd (n (omega (arith, h))))

      step_alike : (b : Bool) (p : Slots) (k : Counters) → step_if b R p k (call d) ≡ step_if b R p k (call e)
      unfolding step_if outcome
      step_alike true p k = refl
      step_alike false p k = let a = alike (within p) in rw (a.slots, a.said, a.mark)

      pub unsent_unseen : (p : Slots) (k : Counters) → step R p k (call d) ≡ step R p k (call e)
      unfolding step
      unsent_unseen p k = step_alike (impossible R p) p k
