-- What becomes of a half message whose clock was set back, in each mode. Assumes nothing.
use mathlib.Core.Bool.{Bool, true, false, not, ◌&&◌, ◌||◌, true≢false}
use mathlib.Core.List.{List, [], ◌∷◌, ◌++◌, map}
use mathlib.Core.Logic.{◌≢◌}
use mathlib.Core.Option.{Option, none, some}
use mathlib.Core.Path.{◌≡◌, refl, sym, ap, subst, ◌∙◌}
use Prim.Native.Nat.{ℕ, ◌-◌, ◌<◌}
use lib.ListN.{length, get_or, take, drop, length-take, length-map, length-append, take-append-drop, get_or-append, get_or-map}
use lib.Seq.{get_or-set_same, get_or-set_other, get_or-take}
use lib.Dec.{eqb, leb}
use native.Mathlib.Omega.{arith}
use borrow.Author.Tests.{not-true, le-ltb, lt-ltb}
use Rattle.base.specs.Pick.{pick}
use Rattle.base.specs.Lists.{first_at, or_else}
use Rattle.base.proofs.Bools.{or_true, and_false, and_left, and_right}
use Rattle.base.proofs.Cases.{pick_all, same?}
use Rattle.base.proofs.First.{Hit, hits, misses, hit, first_passes, first_fails, first_is}
use Rattle.session.specs.declared.Head.{Head}
use Rattle.session.specs.declared.Heard.{Heard}
use Rattle.session.specs.declared.Counters.{Counters}
use Rattle.session.specs.declared.Mode.TheVariants.{AsOriginal, SetBackIsSilence}
use Rattle.session.specs.declared.PoolKind.{PoolKind}
use Rattle.session.specs.Rules.{Rules, silence, silent_by, rules_by}
use Rattle.session.specs.Frames.{index_of, size_of, is_empty, bad_first}
use Rattle.session.specs.Heads.{fresh_head, has_key, is_silent, is_free, is_free_of_source, has_live_key, is_expired}
use Rattle.session.specs.Counting.{expired_mark}
use Rattle.assembler.specs.declared.Pool.{Pool}
use Rattle.assembler.specs.Call.{Call, listed}
use Rattle.assembler.specs.Slots.{Slot, fresh_slot, slot_at, on_head, impossible, chosen, live, opened_slot}
use Rattle.assembler.specs.Step.{Event, opened, opens_at, continues_at, event_of, slots_after, mark_of, said_of, outcome, step_if, step}
use Rattle.assembler.specs.View.{slots_from, slots_of, head_of, pool_of, reply_kind, reply_payload, reply_length, shown, receive_of}
use Rattle.assembler.specs.Promises.{rules_of}
use Rattle.assembler.proofs.Views.{slot_at_lem, slots_long, heads_back}
use Rattle.assembler.proofs.Keeps.{after_length}
use Rattle.ledger.specs.Ledger.{briefly}
use Rattle.ledger.specs.Demand3.{is_opener, has_room}
use Rattle.ledger.specs.Runs.{State, Ran, call, saying_of, after_call}
use Rattle.ledger.specs.Assemblers.{receives}
use Rattle.ledger.specs.SetBack.{head_in, Half, PassesBy, AllPassBy, none, more, ComesTo, its_key, only_room, BeginsBefore, Reclaims, SetBack}
use Rattle.ledger.proofs.Admission.{opener_tests}
use Rattle.ledger.proofs.Demand3.{ran_taken}

-- ---- an event that takes another slot spares this one

module _ (f : Heard) (ss : List Slot) (i : ℕ) where
  abbrev Spares : Event → Type 0
  Spares e = get_or (slots_after f ss e) i fresh_slot ≡ get_or ss i fresh_slot

  -- a search that does not come to place i
  abbrev Elsewhere : Option ℕ → Type 0
  Elsewhere o = (j : ℕ) → o ≡ some j → i ≢ j

  spares_opening : (R : Rules) (o : Option ℕ) → Elsewhere o → Spares (opens_at R f ss o)
  unfolding opens_at slots_after
  spares_opening R none n = refl
  spares_opening R (some j) n = get_or-set_other ss j i _ fresh_slot (n j refl)

  spares_continuing : (o : Option ℕ) → Elsewhere o → Spares (continues_at f ss o)
  unfolding continues_at slots_after
  spares_continuing none n = refl
  spares_continuing (some j) n =
      pick_all Spares _
      (pick_all Spares _ (get_or-set_other ss j i _ fresh_slot (n j refl)) (get_or-set_other ss j i _ fresh_slot (n j refl)))
      (get_or-set_other ss j i _ fresh_slot (n j refl))

  spares : (R : Rules) (pgns : List ℕ) → Elsewhere (chosen R f ss) → Elsewhere (live R f ss) → Spares (event_of R ss (call pgns f))
  unfolding event_of slots_after
  spares R pgns first next =
      pick_all Spares _
      (pick_all Spares _ refl
      (pick_all Spares _
      (pick_all Spares _ refl (pick_all Spares _ refl (spares_opening R (chosen R f ss) first)))
      (spares_continuing (live R f ss) next)))
      refl

-- a choice of two that is a place is one of them
either_else : (a b : Option ℕ) (j : ℕ) {G : Type 0} → or_else a b ≡ some j → (a ≡ some j → G) → (b ≡ some j → G) → G
unfolding or_else
either_else none b j e x y = y e
either_else (some i) b j e x y = x e

-- ---- the head at a place, after one call

module _ (R : Rules) (pgns : List ℕ) (f : Heard) (p : Pool) (k : Counters) (i : ℕ) (low : i < p.size) (there : i < length p.heads) where
  abbrev all : List Slot
  all = slots_from p.heads p.bytes

  abbrev slots : List Slot
  slots = take p.size all

  inside : i < length slots
  inside = let n = length-take p.size all in omega (arith, n, slots_long p.heads p.bytes)

  head_at : (get_or slots i fresh_slot).head ≡ head_in p i
  head_at = ap (λ (s : Slot). s.head) (get_or-take p.size all i fresh_slot low ∙ slot_at_lem p.heads p.bytes i fresh_head fresh_slot there)

  -- the slots that an event leaves, and those past the size
  module _ (e : Event) where
    abbrev left : List Slot
    left = slots_after f slots e ++ drop p.size all

    head_left : get_or (map head_of left) i fresh_head ≡ (get_or (slots_after f slots e) i fresh_slot).head
    unfolding head_of fresh_slot
    head_left =
        get_or-map head_of left i fresh_slot
        ∙ ap head_of (get_or-append (slots_after f slots e) (drop p.size all) fresh_slot i (rw (after_length f slots e) inside))

  -- by whether the pool is impossible
  abbrev leaves : Bool → Pool
  leaves b = pool_of p.kind p.mode (step_if b R (slots_of p) k (call pgns f)).pool

  size_left : (b : Bool) → (leaves b).size ≡ p.size
  unfolding pool_of step_if slots_of outcome
  size_left true = refl
  size_left false = refl

  long_left : (b : Bool) → length (leaves b).heads ≡ length p.heads
  unfolding pool_of step_if slots_of outcome
  long_left true = ap length (heads_back p.heads p.bytes)
  long_left false =
      length-map (slots_after f slots (event_of R slots (call pgns f)) ++ drop p.size all) head_of
      ∙ length-append (slots_after f slots (event_of R slots (call pgns f))) (drop p.size all)
      ∙ rw (after_length f slots (event_of R slots (call pgns f)), ← length-append slots (drop p.size all), take-append-drop p.size all) (slots_long p.heads p.bytes)

  spared_left : Spares f slots i (event_of R slots (call pgns f)) → (b : Bool) → head_in (leaves b) i ≡ head_in p i
  unfolding pool_of step_if slots_of outcome
  spared_left s true = ap (λ (hs : List Head). get_or hs i fresh_head) (heads_back p.heads p.bytes)
  spared_left s false = head_left (event_of R slots (call pgns f)) ∙ ap (λ (s : Slot). s.head) s ∙ head_at

  left_is : (receive_of R pgns f p k).pool ≡ leaves (impossible R (slots_of p))
  unfolding receive_of shown step
  left_is = refl

  -- a search within the slots, by a test that the head at place i fails
  elsewhere : (t : Head → Bool) → t (head_in p i) ≡ false → Elsewhere f slots i (first_at (on_head t) slots)
  elsewhere t failed j found same =
      let hit = first_passes (on_head t) slots fresh_slot j found in
      true≢false (sym hit.passed ∙ subst (λ (n : ℕ). t (get_or slots n fresh_slot).head ≡ t (head_in p i)) same (ap t head_at) ∙ failed)

  first_elsewhere : has_key R f (head_in p i) ≡ false → is_free_of_source R f (head_in p i) ≡ false → is_free R f (head_in p i) ≡ false → Elsewhere f slots i (chosen R f slots)
  unfolding chosen
  first_elsewhere key own free j e same =
      either_else (first_at (on_head (has_key R f)) slots) _ j e (λ a. elsewhere (has_key R f) key j a same)
      (λ r. either_else (first_at (on_head (is_free_of_source R f)) slots) _ j r (λ a. elsewhere (is_free_of_source R f) own j a same) (λ a. elsewhere (is_free R f) free j a same))

  next_elsewhere : has_live_key R f (head_in p i) ≡ false → Elsewhere f slots i (live R f slots)
  unfolding live
  next_elsewhere alive = elsewhere (has_live_key R f) alive

-- ---- as the original: a half message that calls pass by is held

module _ (d : PoolKind) (h : Head) (busy : h.in_progress ≡ true) (c : Call) (by : PassesBy h c) where
  abbrev S : Rules
  S = rules_by d AsOriginal

  not_its : has_key S c.heard h ≡ false
  unfolding has_key rules_by
  not_its = ap (λ (b : Bool). h.in_progress && b) by.other ∙ and_false h.in_progress

  not_silent : is_silent S c.heard h ≡ false
  unfolding is_silent rules_by silent_by silence
  not_silent = le-ltb 500 (c.heard.now_ms - h.last_seen_ms) (omega (arith, by.reading))

  not_free : is_free S c.heard h ≡ false
  unfolding is_free
  not_free = ap (λ (b : Bool). not b || is_silent S c.heard h) busy ∙ not_silent

  not_own : is_free_of_source S c.heard h ≡ false
  unfolding is_free_of_source
  not_own = ap (λ (b : Bool). b && eqb h.source_address c.heard.source_address) not_free

  not_live : has_live_key S c.heard h ≡ false
  unfolding has_live_key
  not_live = ap (λ (b : Bool). b && not (is_silent S c.heard h)) not_its

module _ (d : PoolKind) (i : ℕ) (h : Head) where
  abbrev as_old : Rules
  as_old = rules_by d AsOriginal

  held_one : (p : Pool) (k : Counters) (c : Call) → Half p i h → PassesBy h c → Half (receive_of as_old c.pgns c.heard p k).pool i h
  held_one p k c half by =
      let f = c.heard in
      let low = half.within in
      let there = half.there in
      let busy = half.busy in
      let b = impossible as_old (slots_of p) in
      let at : (t : Head → Bool) → t h ≡ false → t (head_in p i) ≡ false = λ t failed. ap t half.here ∙ failed in
      let first = first_elsewhere as_old c.pgns f p k i low there (at (has_key as_old f) (not_its d h busy c by)) (at (is_free_of_source as_old f) (not_own d h busy c by)) (at (is_free as_old f) (not_free d h busy c by)) in
      let next = next_elsewhere as_old c.pgns f p k i low there (at (has_live_key as_old f) (not_live d h busy c by)) in
      subst (λ (q : Pool). Half q i h) (sym (left_is as_old c.pgns f p k i low there))
      (record {
        within = omega (arith, low, size_left as_old c.pgns f p k i low there b);
        there = omega (arith, there, long_left as_old c.pgns f p k i low there b);
        here = spared_left as_old c.pgns f p k i low there (spares f _ i as_old c.pgns first next) b ∙ half.here;
        busy = busy;
      })

  held_all : (z : State) {cs : List Call} → Half z.pool i h → AllPassBy h cs → Half (receives (receive_of as_old) z cs).pool i h
  unfolding receives after_call
  held_all z half none = half
  held_all z half (more {c} {cs} by rest) =
      held_all (after_call z (receive_of as_old c.pgns c.heard z.pool z.counters)) (held_one z.pool z.counters c half by) rest

old_rules : (p : Pool) → p.mode ≡ AsOriginal → rules_of p ≡ rules_by p.kind AsOriginal
unfolding rules_of
old_rules p old = rw old

held : {z y : State} {cs : List Call} {i : ℕ} {h : Head} → z.pool.mode ≡ AsOriginal → Half z.pool i h → Ran z cs y → AllPassBy h cs → Half y.pool i h
held {z} {y} {cs} {i} {h} old half ran by = rw ((ran_taken ran).is, old_rules z.pool old) (held_all z.pool.kind i h z half by)

-- ---- a clock set back is silence: the next first frame that comes to the half message reclaims it

module _ (z : State) (c : Call) (i : ℕ) (h : Head) (half : Half z.pool i h) (silent : is_silent (rules_of z.pool) c.heard h ≡ true) where
  abbrev p : Pool
  p = z.pool

  abbrev k : Counters
  k = z.counters

  abbrev pgns : List ℕ
  pgns = c.pgns

  abbrev f : Heard
  f = c.heard

  abbrev R : Rules
  R = rules_of p

  abbrev ss : List Slot
  ss = take p.size (slots_from p.heads p.bytes)

  bound : (j : ℕ) → j < length ss → (j < p.size) × (j < length p.heads)
  bound j l = let n = length-take p.size (slots_from p.heads p.bytes) in (omega (arith, n, l), omega (arith, n, l, slots_long p.heads p.bytes))

  seen_at : (j : ℕ) → j < p.size → j < length p.heads → (get_or ss j fresh_slot).head ≡ head_in p j
  seen_at j l m = head_at R pgns f p k j l m

  its_head : (get_or ss i fresh_slot).head ≡ h
  its_head = seen_at i half.within half.there ∙ half.here

  inside_slots : i < length ss
  inside_slots = inside R pgns f p k i half.within half.there

  -- no other place passes a test that asks for room
  its_place : (t : Head → Bool) → ((g : Head) → t g ≡ true → has_room R c g ≡ true) → ((j : ℕ) → j < p.size → j ≢ i → has_room R c (head_in p j) ≡ false) → (j : ℕ) → first_at (on_head t) ss ≡ some j → j ≡ i
  its_place t asks alone j found =
      let at = first_passes (on_head t) ss fresh_slot j found in
      let in_both = bound j at.inside in
      same? j i (λ e. e) (λ n. absurd (true≢false (sym (asks (head_in p j) (sym (ap t (seen_at j in_both.0 in_both.1)) ∙ at.passed)) ∙ alone j in_both.0 n)))

  key_room : (g : Head) → has_key R f g ≡ true → has_room R c g ≡ true
  unfolding has_room
  key_room g e = rw e

  free_room : (g : Head) → is_free R f g ≡ true → has_room R c g ≡ true
  unfolding has_room is_free
  free_room g e = go (has_key R f g) (not g.in_progress) (is_silent R f g) e
    where
      go : (a b d : Bool) → (b || d) ≡ true → (a || b || d) ≡ true
      go true b d e = refl
      go false true d e = refl
      go false false d e = e

  own_room : (g : Head) → is_free_of_source R f g ≡ true → has_room R c g ≡ true
  unfolding is_free_of_source
  own_room g e = free_room g (and_left (is_free R f g) (eqb g.source_address f.source_address) e)

  its_free : is_free R f (get_or ss i fresh_slot).head ≡ true
  unfolding is_free
  its_free = rw its_head (rw silent (or_true (not h.in_progress)))

  comes_to : ComesTo p i c → chosen R f ss ≡ some i
  unfolding chosen or_else
  comes_to (its_key key before) =
      let at = first_is (on_head (has_key R f)) ss i fresh_slot inside_slots
      (λ j l. ap (has_key R f) (seen_at j (omega (arith, l, half.within)) (omega (arith, l, half.there))) ∙ before j l)
      (ap (has_key R f) (seen_at i half.within half.there) ∙ key) in
      rw at
  comes_to (only_room alone) =
      go (hit (first_at (on_head (has_key R f)) ss)) (hit (first_at (on_head (is_free_of_source R f)) ss)) (hit (first_at (on_head (is_free R f)) ss))
    where
      go : Hit (first_at (on_head (has_key R f)) ss) → Hit (first_at (on_head (is_free_of_source R f)) ss) → Hit (first_at (on_head (is_free R f)) ss)
          → or_else (first_at (on_head (has_key R f)) ss) (or_else (first_at (on_head (is_free_of_source R f)) ss) (first_at (on_head (is_free R f)) ss)) ≡ some i
      go (hits j e) o v = rw e (ap some (its_place (has_key R f) key_room alone j e))
      go (misses e) (hits j d) v = rw (e, d) (ap some (its_place (is_free_of_source R f) own_room alone j d))
      go (misses e) (misses d) (hits j b) = rw (e, d, b) (ap some (its_place (is_free R f) free_room alone j b))
      go (misses e) (misses d) (misses b) = absurd (true≢false (sym its_free ∙ (first_fails (on_head (is_free R f)) ss fresh_slot b).failed i inside_slots))

  late : is_expired R f h ≡ true
  unfolding is_expired
  late = ap (λ (b : Bool). b && is_silent R f h) half.busy ∙ silent

  its_event : is_opener c ≡ true → ComesTo p i c → event_of R ss c ≡ opened i true
  unfolding event_of pick opens_at
  its_event opener to =
      let all = opener_tests c ∙ opener in
      let sent = and_right (listed c) _ all in
      let first = and_right (not (is_empty f)) _ sent in
      let good = and_right (eqb (index_of f) 0) _ first in
      rw (
        and_left (listed c) _ all,
        not-true (is_empty f) (and_left (not (is_empty f)) _ sent),
        and_left (eqb (index_of f) 0) _ first,
        not-true (bad_first f) (and_left (not (bad_first f)) _ good),
        not-true (leb (size_of f) 6) (and_right (not (bad_first f)) _ good),
        comes_to to,
        its_head,
        late,
      )

  -- the call, by its event
  called : (e : Event) → impossible R (slots_of p) ≡ false → event_of R ss c ≡ e → receive_of R pgns f p k ≡ shown p.kind p.mode (outcome f e (slots_of p) k)
  unfolding receive_of step
  called e fine is = rw fine (unfold step_if slots_of in ap (λ (x : Event). shown p.kind p.mode (outcome f x (slots_of p) k)) is)

  opens_here : Reclaims c i z (after_call z (shown p.kind p.mode (outcome f (opened i true) (slots_of p) k)))
  unfolding after_call saying_of briefly shown outcome pool_of slots_of reply_kind reply_payload reply_length said_of mark_of expired_mark
  opens_here =
      record {
        answer = refl;
        opened =
            head_left R pgns f p k i half.within half.there (opened i true)
            ∙ (unfold slots_after opened_slot in ap (λ (s : Slot). s.head) (get_or-set_same ss i (opened_slot f (slot_at ss i)) fresh_slot inside_slots));
        counted = refl;
      }

set_back_silent : (p : Pool) (f : Heard) (h : Head) → p.mode ≡ SetBackIsSilence → f.now_ms < h.last_seen_ms → is_silent (rules_of p) f h ≡ true
unfolding is_silent rules_of rules_by silent_by
set_back_silent p f h new earlier = rw (new, lt-ltb f.now_ms h.last_seen_ms earlier) (or_true (silence f.now_ms h.last_seen_ms))

reclaimed : {z y : State} {c : Call} {i : ℕ} {h : Head} → z.pool.mode ≡ SetBackIsSilence → impossible (rules_of z.pool) (slots_of z.pool) ≡ false → Half z.pool i h
    → BeginsBefore z.pool i h c → Ran z (c ∷ []) y → Reclaims c i z y
unfolding receives
reclaimed {z} {y} {c} {i} {h} new fine half begins ran =
    let silent = set_back_silent z.pool c.heard h new begins.earlier in
    let is = called z c i h half silent (opened i true) fine (its_event z c i h half silent begins.opens begins.place) in
    subst (Reclaims c i z) (sym ((ran_taken ran).is ∙ ap (after_call z) is)) (opens_here z c i h half silent)

pub set_back : SetBack
set_back = record { held = held; reclaimed = reclaimed }
