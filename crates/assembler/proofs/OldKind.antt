-- Under the old kind's entry nothing moved. Assumes nothing.
use mathlib.Core.Bool.{Bool, true, false, not, ◌&&◌, ◌||◌, true≢false}
use mathlib.Core.List.{List, [], ◌∷◌}
use mathlib.Core.Option.{Option, none, some}
use mathlib.Core.Path.{◌≡◌, refl, sym, ap, ◌∙◌}
use Prim.Native.Nat.{ℕ}
use lib.Dec.{eqb, ltb}
use borrow.Author.Tests.{eqb-true, not-false}
use Rattle.base.specs.Answer.{gives, refuses}
use Rattle.base.specs.Pick.{pick}
use Rattle.base.specs.Lists.{first_at, any}
use Rattle.base.proofs.Bools.{or_left, or_right}
use Rattle.can_id.specs.Layout.{pgn_pf}
use Rattle.session.specs.declared.Counters.{Counters}
use Rattle.session.specs.declared.Head.{Head}
use Rattle.session.specs.declared.Heard.{Heard}
use Rattle.session.specs.declared.Mode.{Mode}
use Rattle.session.specs.declared.PoolKind.TheVariants.{Original, Addressed}
use Rattle.session.specs.Rules.{Rules, part_allowed, any_part, rules_by, rules_without_part}
use Rattle.session.specs.Frames.{key_of}
use Rattle.session.specs.Heads.{head_key, impossible_head, has_key, is_free, is_free_of_source, is_silent, has_live_key, is_expired}
use Rattle.session.proofs.OldKey.{old_key}
use Rattle.session.proofs.Sound.{fitting}
use Rattle.assembler.specs.declared.Pool.{Pool}
use Rattle.assembler.specs.declared.Received.{Received}
use Rattle.assembler.specs.Call.{Call, CallOk, part_fits}
use Rattle.assembler.specs.Slots.{Slot, Slots, within, slot_at, on_head, impossible, chosen, live}
use Rattle.assembler.specs.Step.{opens_at, event_of, step_if, step}
use Rattle.assembler.specs.View.{slots_of, shown, receive_of}
use Rattle.assembler.specs.Promises.{rules_of, same_kind, entered, at_original, answer_to, ReceivesHeard}
use Rattle.assembler.specs.OldKind.{has_part, is_focused, any_head, OldKind}
use Rattle.assembler.proofs.Entries.{answer_steps}
use Rattle.assembler.proofs.Keeps.{keeps}
use Rattle.assembler.proofs.Promised.{received_by}

-- ---- tests that agree wherever u fails

module _ (u t t' : Head → Bool) (same : (h : Head) → u h ≡ false → t h ≡ t' h) where
  first_agrees : (ss : List Slot) → any (on_head u) ss ≡ false → first_at (on_head t) ss ≡ first_at (on_head t') ss
  unfolding any first_at
  first_agrees [] e = refl
  first_agrees (s ∷ ss) e = rw (same s.head (or_left (u s.head) _ e), first_agrees ss (or_right (u s.head) _ e))

  any_agrees : (ss : List Slot) → any (on_head u) ss ≡ false → any (on_head t) ss ≡ any (on_head t') ss
  unfolding any
  any_agrees [] e = refl
  any_agrees (s ∷ ss) e = rw (same s.head (or_left (u s.head) _ e), any_agrees ss (or_right (u s.head) _ e))

-- a test that fails wherever t does
any_fails : (t u : Head → Bool) → ((h : Head) → t h ≡ false → u h ≡ false) → (ss : List Slot) → any (on_head t) ss ≡ false → any (on_head u) ss ≡ false
unfolding any
any_fails t u less [] e = refl
any_fails t u less (s ∷ ss) e = rw (less s.head (or_left (t s.head) _ e)) (any_fails t u less ss (or_right (t s.head) _ e))

-- ---- rules that differ in the key and in what they allow alone

module _ (R S : Rules) (silent : R.silent ≡ S.silent) (f : Heard) (ss : List Slot) where
  silent_same : (h : Head) → is_silent R f h ≡ is_silent S f h
  unfolding is_silent
  silent_same h = rw silent

  opens_same : (o : Option ℕ) → opens_at R f ss o ≡ opens_at S f ss o
  unfolding opens_at is_expired
  opens_same none = refl
  opens_same (some i) = rw (silent_same (slot_at ss i).head)

module _ (R S : Rules) (limit : R.limit ≡ S.limit) (silent : R.silent ≡ S.silent) (u : Head → Bool) (c : Call)
    (keyed : (h : Head) → u h ≡ false → has_key R c.heard h ≡ has_key S c.heard h) (bad : (h : Head) → u h ≡ false → impossible_head R h ≡ impossible_head S h) where
  abbrev f : Heard
  f = c.heard

  free_same : (h : Head) → u h ≡ false → is_free R f h ≡ is_free S f h
  unfolding is_free
  free_same h e = rw (silent_same R S silent f [] h)

  own_same : (h : Head) → u h ≡ false → is_free_of_source R f h ≡ is_free_of_source S f h
  unfolding is_free_of_source
  own_same h e = rw (free_same h e)

  live_same : (h : Head) → u h ≡ false → has_live_key R f h ≡ has_live_key S f h
  unfolding has_live_key
  live_same h e = rw (keyed h e, silent_same R S silent f [] h)

  event_same : (ss : List Slot) → any (on_head u) ss ≡ false → event_of R ss c ≡ event_of S ss c
  unfolding event_of chosen live
  event_same ss e =
      rw (
        first_agrees u (has_key R f) (has_key S f) keyed ss e,
        first_agrees u (is_free_of_source R f) (is_free_of_source S f) own_same ss e,
        first_agrees u (is_free R f) (is_free S f) free_same ss e,
        first_agrees u (has_live_key R f) (has_live_key S f) live_same ss e,
        opens_same R S silent f ss _,
      )

  impossible_same : (p : Slots) → any_head u p ≡ false → impossible R p ≡ impossible S p
  unfolding any_head impossible
  impossible_same p e =
      ap (λ (n : ℕ). ltb n p.size || any (on_head (impossible_head R)) (within p)) limit
      ∙ ap (λ (b : Bool). ltb S.limit p.size || b) (any_agrees u (impossible_head R) (impossible_head S) bad (within p) e)

  step_same : (p : Slots) (k : Counters) → any_head u p ≡ false → step R p k c ≡ step S p k c
  unfolding step step_if
  step_same p k e = ap (λ (b : Bool). step_if b R p k c) (impossible_same p e) ∙ go (impossible S p)
    where
      go : (b : Bool) → step_if b R p k c ≡ step_if b S p k c
      go true = refl
      go false = rw (event_same (within p) (unfold any_head in e))

-- ---- the old kind

module _ (mode : Mode) where
  abbrev old : Rules
  old = rules_by Original mode

  abbrev three : Rules
  three = rules_without_part mode

  part_none : (b : Bool) (n : ℕ) → (b && not (eqb n 0)) ≡ false → b ≡ true → n ≡ 0
  part_none true n e y = eqb-true n 0 (not-false (eqb n 0) e)
  part_none false n e y = absurd (true≢false (sym y))

  old_keyed : (f : Heard) → f.part ≡ 0 → (h : Head) → has_part h ≡ false → has_key old f h ≡ has_key three f h
  unfolding has_part has_key rules_by rules_without_part
  old_keyed f bare h e = go h.in_progress refl
    where
      go : (b : Bool) → h.in_progress ≡ b → has_key old f h ≡ has_key three f h
      go true y = ap (◌&&◌ h.in_progress) (old_key (head_key h) (key_of f) (unfold head_key in part_none h.in_progress h.part e y) (unfold key_of in bare))
      go false y = rw y

  old_possible : (h : Head) → has_part h ≡ false → impossible_head old h ≡ impossible_head three h
  unfolding has_part impossible_head rules_by rules_without_part part_allowed any_part
  old_possible h e = go h.in_progress refl
    where
      go : (b : Bool) → h.in_progress ≡ b → impossible_head old h ≡ impossible_head three h
      go true y = rw (y, part_none h.in_progress h.part e y)
      go false y = rw y

  same_limit : old.limit ≡ three.limit
  unfolding rules_by rules_without_part
  same_limit = refl

  same_silent : old.silent ≡ three.silent
  unfolding rules_by rules_without_part
  same_silent = refl

  steps_stay : (p : Slots) (k : Counters) (c : Call) → any_head has_part p ≡ false → c.heard.part ≡ 0 → step old p k c ≡ step three p k c
  steps_stay p k c e bare = step_same old three same_limit same_silent has_part c (old_keyed c.heard bare) old_possible p k e

  -- a possible head of the old kind has no part
  possible_none : (h : Head) → impossible_head old h ≡ false → has_part h ≡ false
  unfolding has_part
  possible_none h e = go h.in_progress refl
    where
      fits : h.in_progress ≡ true → eqb h.part 0 ≡ true
      fits y = unfold rules_by part_allowed in fitting old h y e

      go : (b : Bool) → h.in_progress ≡ b → (h.in_progress && not (eqb h.part 0)) ≡ false
      go true y = rw (y, fits y)
      go false y = rw y

  pool_none : (p : Slots) → impossible old p ≡ false → any_head has_part p ≡ false
  unfolding any_head impossible
  pool_none p e = any_fails (impossible_head old) has_part possible_none (within p) (or_right (ltb old.limit p.size) _ e)

  none_given : (p : Slots) (k : Counters) (c : Call) → CallOk c → any_head has_part p ≡ false → c.heard.part ≡ 0 → any_head has_part (step old p k c).pool ≡ false
  none_given p k c ok e bare = go (impossible old p) refl
    where
      fits : part_fits old c ≡ true
      fits = unfold rules_by part_allowed in rw bare

      go : (b : Bool) → impossible old p ≡ b → any_head has_part (step old p k c).pool ≡ false
      go true y = unfold step step_if in rw y e
      go false y = pool_none (step old p k c).pool (keeps old p k c ok fits y).possible

  refused : (p : Slots) (k : Counters) (c : Call) → any_head has_part p ≡ true → step old p k c ≡ record { reply = refuses 1 []; pool = p; counters = k }
  unfolding step step_if
  refused p k c e = go (impossible old p) refl
    where
      go : (b : Bool) → impossible old p ≡ b → step_if (impossible old p) old p k c ≡ record { reply = refuses 1 []; pool = p; counters = k }
      go true y = rw y
      go false y = absurd (true≢false (sym e ∙ pool_none p y))

  answers_stay : (pgns : List ℕ) (f : Heard) (p : Pool) (k : Counters) {r : Received} → p.kind ≡ Original → p.mode ≡ mode → any_head has_part (slots_of p) ≡ false → f.part ≡ 0
      → ReceivesHeard pgns (at_original p f) p k r → r ≡ receive_of three pgns f p k
  answers_stay pgns f p k {r} kind same e bare h =
      let here : at_original p f ≡ gives f = unfold entered same_kind pick in rw kind in
      let rules : rules_of p ≡ old = unfold rules_of in rw (kind, same) in
      let stays : receive_of old pgns f p k ≡ receive_of three pgns f p k = unfold receive_of in ap (shown p.kind p.mode) (steps_stay (slots_of p) k (record { pgns = pgns; heard = f }) e bare) in
      let heard : answer_to pgns (at_original p f) p k ≡ receive_of (rules_of p) pgns f p k = rw here (answer_steps pgns p k f) in
      received_by pgns (at_original p f) p k h ∙ heard ∙ ap (λ (R : Rules). receive_of R pgns f p k) rules ∙ stays

  -- ---- the new kind, where no PGN goes to a destination

  abbrev new : Rules
  new = rules_by Addressed mode

  focused_not : (b t : Bool) → (b && t) ≡ false → b ≡ true → t ≡ false
  focused_not true t e y = e
  focused_not false t e y = absurd (true≢false (sym y))

  new_possible : (h : Head) → is_focused h ≡ false → impossible_head new h ≡ impossible_head old h
  unfolding is_focused impossible_head rules_by part_allowed pick
  new_possible h e = go h.in_progress refl
    where
      go : (b : Bool) → h.in_progress ≡ b → impossible_head new h ≡ impossible_head old h
      go true y = rw (y, focused_not h.in_progress (ltb (pgn_pf h.pgn) 240) e y)
      go false y = rw y

  new_as_old : (p : Slots) (k : Counters) (c : Call) → any_head is_focused p ≡ false → step new p k c ≡ step old p k c
  new_as_old p k c e =
      step_same new old (unfold rules_by in refl) (unfold rules_by in refl) is_focused c (λ h y. unfold has_key rules_by in refl) new_possible p k e

pub old_kind : (mode : Mode) → OldKind mode
old_kind mode = record { steps_stay = steps_stay mode; none_given = none_given mode; refused = refused mode; answers_stay = answers_stay mode; new_as_old = new_as_old mode }
