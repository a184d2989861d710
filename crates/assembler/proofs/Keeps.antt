-- A call keeps a possible pool possible, for any rules. Assumes nothing.
use Prim.Native.Nat.{ℕ, zero, suc, ◌+◌, ◌-◌, ◌*◌, ◌≤◌, ◌<◌, min}
use mathlib.Core.Path.{◌≡◌, refl, ◌∙◌}
use mathlib.Core.Bool.{Bool, true, false}
use mathlib.Core.Option.{Option, none, some}
use mathlib.Core.List.{List, [], ◌∷◌, ◌++◌, append-nil}
use lib.ListN.{length, take, drop, set, length-set, length-take, length-drop, length-replicate, drop_of_length-le}
use lib.Seq.{length-paste, length-take-le, take_at, take_all}
use lib.Dec.{eqb, ltb, leb}
use native.Mathlib.Omega.{arith}
use borrow.Author.Tests.{ltb-false, leb-false, eqb-true, lt-ltb, le-ltb, eq-eqb}
use Rattle.base.specs.Pick.{pick}
use Rattle.base.specs.Lists.{any}
use Rattle.base.proofs.Bools.{or_left, or_right, and_false}
use Rattle.base.proofs.Cases.{less?}
use Rattle.base.proofs.First.{first_passes}
use Rattle.session.specs.declared.Counters.{Counters}
use Rattle.session.specs.declared.Heard.{Heard}
use Rattle.session.specs.declared.Head.{Head}
use Rattle.session.specs.Rules.{Rules}
use Rattle.session.specs.Frames.{sequence_of, index_of, size_of, bad_size, first_bytes, next_bytes, is_empty, bad_first}
use Rattle.session.specs.Heads.{impossible_head, has_live_key, in_turn, is_next, opened_head, reset_head, wanted, copied_head, all_there}
use Rattle.session.proofs.Cuts.{first_good, next_in_turn}
use Rattle.session.proofs.Sound.{Sound, sound, fitting, none_at, busy_live}
use Rattle.assembler.specs.Call.{Call, CallOk, part_fits, listed}
use Rattle.assembler.specs.Slots.{Slot, Slots, fresh_slot, slot_at, within, on_head, impossible, chosen, live, opened_slot, reset_slot, copied_slot}
use Rattle.assembler.specs.Step.{Event, not_listed, rejected, short_message, pool_full, opened, stray, broken, copied, completed, opens_at, continues_at, event_of, slots_after, outcome, step_if, step}
use Rattle.assembler.proofs.Events.{first_short, first_sized, copy_at, turn_at, by_index, by_sent, by_list}
use Rattle.assembler.proofs.Views.{Sized, none, more, sized_append}

-- ---- lists

any_set : {A : Type 0} (t : A → Bool) (l : List A) (i : ℕ) (s : A) → any t l ≡ false → t s ≡ false → any t (set l i s) ≡ false
unfolding any
any_set t [] i s e h = e
any_set t (x ∷ xs) zero s e h = rw h (or_right (t x) (any t xs) e)
any_set t (x ∷ xs) (suc i) s e h = rw (or_left (t x) (any t xs) e) (any_set t xs i s (or_right (t x) (any t xs) e) h)

-- what stands within the size after the slots there were replaced
pub take_rest : {A : Type 0} (n : ℕ) (l x : List A) → length x ≡ length (take n l) → take n (x ++ drop n l) ≡ x
take_rest n l x e =
    less? (length l) n
    (λ short. rw (drop_of_length-le l {i = n} (omega arith), append-nil x) (take_all n x (omega (arith, e, length-take n l))))
    (λ enough. take_at x (drop n l) n (e ∙ length-take-le n l enough))

sized_set : {ss : List Slot} → Sized ss → (i : ℕ) (s : Slot) → length s.buffer ≡ 223 → Sized (set ss i s)
sized_set none i s e = none
sized_set (more d h) zero s e = more e h
sized_set (more d h) (suc i) s e = more d (sized_set h i s e)

sized_at : {ss : List Slot} → Sized ss → (i : ℕ) → length (slot_at ss i).buffer ≡ 223
sized_at none i = unfold fresh_slot in length-replicate {A = ℕ} 223 0
sized_at (more d h) zero = d
sized_at (more d h) (suc i) = sized_at h i

pub sized_take : {ss : List Slot} → Sized ss → (n : ℕ) → Sized (take n ss)
sized_take h zero = none
sized_take none (suc n) = none
sized_take (more d h) (suc n) = more d (sized_take h n)

pub sized_drop : {ss : List Slot} → Sized ss → (n : ℕ) → Sized (drop n ss)
sized_drop h zero = h
sized_drop none (suc n) = none
sized_drop (more d h) (suc n) = sized_drop h n

-- ---- heads that a call leaves

opened_fine : (R : Rules) (f : Heard) → sequence_of f ≤ 7 → 7 ≤ size_of f → size_of f ≤ 223 → R.allowed f.pgn f.part ≡ true → impossible_head R (opened_head f) ≡ false
unfolding impossible_head opened_head
opened_fine R f a b d fits = rw (fits, le-ltb 7 (sequence_of f) a, le-ltb (size_of f) 7 b, le-ltb 223 (size_of f) d, lt-ltb 6 (size_of f) b)

reset_fine : (R : Rules) (h : Head) → impossible_head R (reset_head h) ≡ false
unfolding impossible_head reset_head
reset_fine R h = refl

copied_fine : (R : Rules) (f : Heard) (h : Head) → Sound h → R.allowed h.pgn h.part ≡ true → is_next f h ≡ true → all_there (copied_head f h) ≡ false → impossible_head R (copied_head f h) ≡ false
unfolding impossible_head copied_head all_there in_turn wanted
copied_fine R f h s fits turn short =
    let next : index_of f ≡ h.last_frame_index + 1 = eqb-true (index_of f) (h.last_frame_index + 1) (next_in_turn f h turn) in
    let less : h.current_size + min 7 (h.expected_size - h.current_size) < h.expected_size = leb-false h.expected_size (h.current_size + min 7 (h.expected_size - h.current_size)) short in
    let full : h.current_size + min 7 (h.expected_size - h.current_size) ≡ 6 + 7 * index_of f = omega (arith, s.held, s.below) in
    rw (
      fits,
      le-ltb 7 h.sequence_id s.sequence,
      le-ltb h.expected_size 7 s.least,
      le-ltb 223 h.expected_size s.most,
      eq-eqb (h.current_size + min 7 (h.expected_size - h.current_size)) (6 + 7 * index_of f) full,
      lt-ltb (h.current_size + min 7 (h.expected_size - h.current_size)) h.expected_size less,
    ) (and_false h.in_progress)

-- ---- the slots that a call leaves

pub after_length : (f : Heard) (ss : List Slot) (e : Event) → length (slots_after f ss e) ≡ length ss
unfolding slots_after
after_length f ss not_listed = refl
after_length f ss rejected = refl
after_length f ss short_message = refl
after_length f ss pool_full = refl
after_length f ss (opened i late) = simp length-set
after_length f ss stray = refl
after_length f ss (broken i) = simp length-set
after_length f ss (copied i) = simp length-set
after_length f ss (completed i) = simp length-set

module _ (R : Rules) (c : Call) (ok : CallOk c) (part : part_fits R c ≡ true) (ss : List Slot) (fine : any (on_head (impossible_head R)) ss ≡ false) where
  -- a record, so that antt reads the slots off the goal
  record Fine (ts : List Slot) : Type 0 where
    possible : any (on_head (impossible_head R)) ts ≡ false
    sized : Sized ss → Sized ts

  same : Fine ss
  same = record { possible = fine; sized = λ h. h }

  put : (i : ℕ) (s : Slot) → impossible_head R s.head ≡ false → (Sized ss → length s.buffer ≡ 223) → Fine (set ss i s)
  put i s good long = record { possible = any_set (on_head (impossible_head R)) ss i s fine good; sized = λ h. sized_set h i s (long h) }

  few : sequence_of c.heard ≤ 7
  unfolding sequence_of
  few = omega (arith, ok.byte)

  six : length (first_bytes c.heard) ≡ 6
  unfolding first_bytes
  six = simp length-drop (rw ok.eight)

  seven : length (next_bytes c.heard) ≡ 7
  unfolding next_bytes
  seven = simp length-drop (rw ok.eight)

  opens : 7 ≤ size_of c.heard → size_of c.heard ≤ 223 → (o : Option ℕ) → Fine (slots_after c.heard ss (opens_at R c.heard ss o))
  unfolding opens_at slots_after opened_slot
  opens low high none = same
  opens low high (some i) =
      put i (opened_slot c.heard (slot_at ss i)) (opened_fine R c.heard few low high part)
      (λ h. length-paste (slot_at ss i).buffer 0 (first_bytes c.heard) 6 (omega (arith, sized_at h i)) (omega (arith, six)) ∙ sized_at h i)

  short : (b : Bool) → leb (size_of c.heard) 6 ≡ b → size_of c.heard ≤ 223 → Fine (slots_after c.heard ss (first_short b R c.heard ss))
  unfolding pick
  short true e high = unfold slots_after in same
  short false e high = opens (leb-false (size_of c.heard) 6 e) high (chosen R c.heard ss)

  first : (b : Bool) → bad_first c.heard ≡ b → Fine (slots_after c.heard ss (first_sized b R c.heard ss))
  unfolding pick
  first true e = unfold slots_after in same
  first false e =
      short (leb (size_of c.heard) 6) refl
      (unfold bad_size in ltb-false 223 (size_of c.heard) (or_right (eqb (size_of c.heard) 0) (ltb 223 (size_of c.heard)) (first_good c.heard e)))

  module _ (i : ℕ) (s : Sound (slot_at ss i).head) (fits : R.allowed (slot_at ss i).head.pgn (slot_at ss i).head.part ≡ true) where
    copied_long : Sized ss → length (copied_slot c.heard (slot_at ss i)).buffer ≡ 223
    unfolding copied_slot wanted
    copied_long h =
        length-paste (slot_at ss i).buffer (slot_at ss i).head.current_size (next_bytes c.heard) (min 7 ((slot_at ss i).head.expected_size - (slot_at ss i).head.current_size))
        (omega (arith, sized_at h i, s.most, s.below)) (omega (arith, seven)) ∙ sized_at h i

    copies : (b : Bool) → is_next c.heard (slot_at ss i).head ≡ true → all_there (copied_head c.heard (slot_at ss i).head) ≡ b → Fine (slots_after c.heard ss (copy_at b i))
    unfolding pick slots_after
    copies true turn e = put i (reset_slot (copied_slot c.heard (slot_at ss i))) (unfold reset_slot in reset_fine R _) (λ h. unfold reset_slot in copied_long h)
    copies false turn e = put i (copied_slot c.heard (slot_at ss i)) (unfold copied_slot in copied_fine R c.heard (slot_at ss i).head s fits turn e) copied_long

    turns : (b : Bool) → is_next c.heard (slot_at ss i).head ≡ b → Fine (slots_after c.heard ss (turn_at b c.heard i (slot_at ss i).head))
    unfolding pick
    turns true e = copies (all_there (copied_head c.heard (slot_at ss i).head)) e refl
    turns false e = unfold slots_after in put i (reset_slot (slot_at ss i)) (unfold reset_slot in reset_fine R _) (λ h. unfold reset_slot in sized_at h i)

  continues : (o : Option ℕ) → live R c.heard ss ≡ o → Fine (slots_after c.heard ss (continues_at c.heard ss o))
  unfolding continues_at live
  continues none e = unfold slots_after in same
  continues (some i) e =
      let hit = first_passes (on_head (has_live_key R c.heard)) ss fresh_slot i e in
      let busy = busy_live R c.heard (slot_at ss i).head hit.passed in
      let good = none_at (on_head (impossible_head R)) ss i fresh_slot fine hit.inside in
      turns i (sound R (slot_at ss i).head busy good) (fitting R (slot_at ss i).head busy good)
      (is_next c.heard (slot_at ss i).head) refl

  index : (b : Bool) → Fine (slots_after c.heard ss (by_index b R c.heard ss))
  unfolding pick
  index true = first (bad_first c.heard) refl
  index false = continues (live R c.heard ss) refl

  sent : (b : Bool) → Fine (slots_after c.heard ss (by_sent b R c.heard ss))
  unfolding pick
  sent true = unfold slots_after in same
  sent false = index (eqb (index_of c.heard) 0)

  list : (b : Bool) → Fine (slots_after c.heard ss (by_list b R c.heard ss))
  unfolding pick
  list false = unfold slots_after in same
  list true = sent (is_empty c.heard)

  event : Fine (slots_after c.heard ss (event_of R ss c))
  unfolding event_of
  event = list (listed c)

-- ---- one call

pub record Kept (R : Rules) (p q : Slots) : Type 0 where
  pub possible : impossible R q ≡ false
  pub sized : Sized p.slots → Sized q.slots

still_possible : (R : Rules) (p : Slots) (ts : List Slot) → length ts ≡ length (within p) → ltb R.limit p.size ≡ false → any (on_head (impossible_head R)) ts ≡ false
    → impossible R (record { slots = ts ++ drop p.size p.slots; size = p.size }) ≡ false
unfolding impossible
still_possible R p ts long small fine = rw (small, take_rest p.size p.slots ts long) fine

in_limit : (R : Rules) (p : Slots) → impossible R p ≡ false → ltb R.limit p.size ≡ false
unfolding impossible
in_limit R p e = or_left (ltb R.limit p.size) (any (on_head (impossible_head R)) (within p)) e

all_possible : (R : Rules) (p : Slots) → impossible R p ≡ false → any (on_head (impossible_head R)) (within p) ≡ false
unfolding impossible
all_possible R p e = or_right (ltb R.limit p.size) (any (on_head (impossible_head R)) (within p)) e

-- the theorem
pub keeps : (R : Rules) (p : Slots) (k : Counters) (c : Call) → CallOk c → part_fits R c ≡ true → impossible R p ≡ false → Kept R p (step R p k c).pool
unfolding step step_if outcome
keeps R p k c ok part e =
    let done = event R c ok part (within p) (all_possible R p e) in
    rw e
    (record {
      possible = still_possible R p (slots_after c.heard (within p) (event_of R (within p) c)) (after_length c.heard (within p) (event_of R (within p) c)) (in_limit R p e) done.possible;
      sized = λ h. sized_append (done.sized (sized_take h p.size)) (sized_drop h p.size);
    })
