-- "Reject these": no assembler with one fixed kind of answer meets demand 2, and none that never stores a fragment. Each is shown by frames on which it answers
-- otherwise than document 01's steps. (Those that demand 3 rejects stand in Wrong.antt.)
-- Assumes nothing.
use mathlib.Core.Bool.{Bool, true, false, true≢false}
use mathlib.Core.List.{List}
use mathlib.Core.Path.{◌≡◌, refl, sym, ap, ◌∙◌}
use Prim.Native.Nat.{ℕ}
use native.Mathlib.Omega.{arith}
use lib.ListN.{get_or, take}
use Rattle.base.specs.Answer.{Answer, gives, refuses}
use Rattle.session.specs.declared.Heard.{Heard}
use Rattle.session.specs.declared.Kind.{Kind}
use Rattle.session.specs.declared.Kind.TheVariants as kind
use Rattle.std.specs.Prelude.{Some}
use Rattle.session.specs.declared.Counter.TheVariants.{Lost}
use Rattle.session.specs.declared.Mode.TheVariants.{AsOriginal}
use Rattle.session.specs.declared.PoolKind.TheVariants as pools
use Rattle.session.specs.Rules.{base, original}
use Rattle.session.specs.Heads.{opened_head, copied_head}
use Rattle.session.specs.Counting.{fresh_counters}
use Rattle.assembler.specs.declared.Received.{Received}
use Rattle.assembler.specs.Call.{Call}
use Rattle.assembler.specs.Slots.{Slot, within, reset_slot}
use Rattle.assembler.specs.Making.{fresh_pool_in, fresh_pool}
use Rattle.assembler.specs.OldKind.{has_part, any_head}
use Rattle.assembler.proofs.OldKind.{old_kind}
use Rattle.assembler.proofs.Views.{Made}
use Rattle.assembler.specs.View.{slots_of, shown, reply_by, reply_of, receive_of}
use Rattle.ledger.specs.Demand2.{original_event, continued_at, needed_cut, Answered, Ignored, FragmentConsumed, MessageComplete, whole, answer_of, Original, happens, original_if, original_of, as_ignored, read_reply, as_original}
use Rattle.ledger.specs.Assemblers.{Receive, Demand2, AlwaysIgnores, OneKind, NeverStores}
use Rattle.ledger.proofs.Demand2.{none_cut, call_as}
use Rattle.ledger.proofs.EveryFate.{ran, frame, announces, goes_on}
use Rattle.ledger.proofs.Parts.{Parts, untouched, slots_by, mark_by, said_by, outcome_by, step_by, by}
use Rattle.ledger.proofs.Wrong.{completes}

-- what an assembler gives on a fresh pool of four slots and zero counters
abbrev first : Receive → Call → Received
first f c = f c.pgns c.heard (fresh_pool 4) fresh_counters

-- ---- the receive call itself meets demand 2

pub meets_demand_2 : Demand2 (receive_of base)
unfolding Demand2
meets_demand_2 pgns heard pool counters own old bare plain whole =
    let stays : receive_of base pgns heard pool counters ≡ receive_of original pgns heard pool counters =
    unfold receive_of base original in ap (shown pool.kind pool.mode) ((old_kind AsOriginal).steps_stay (slots_of pool) counters (record { pgns = pgns; heard = heard }) bare plain) in
    ap as_original stays ∙ call_as original pgns heard pool counters own old whole

-- ---- one fixed kind of answer

is_message : Answer Answered → Bool
is_message (refuses n carried) = false
is_message (gives Ignored) = false
is_message (gives FragmentConsumed) = false
is_message (gives (MessageComplete bytes n)) = true

-- what document 01's steps give there
abbrev firstly : Call → Original
firstly c = original_of original c.pgns c.heard (fresh_pool 4) fresh_counters

-- 00 06 and six bytes are a message; 00 00 is ignored
six_completes : is_message (firstly (announces 6 0 35)).answer ≡ true
unfolding ran announces frame is_message original_of original_if original_event continued_at happens answer_of whole
six_completes = refl

nothing_completes : is_message (firstly (announces 0 0 35)).answer ≡ false
unfolding ran announces frame is_message original_of original_if original_event continued_at happens answer_of whole
nothing_completes = refl

-- whether an answer is a message is told by its kind
by_kind : (k : Kind) (payload : List ℕ) (length : ℕ) → is_message (read_reply (reply_by k payload length)) ≡ completes k
unfolding is_message read_reply as_ignored reply_by completes
by_kind kind.ImpossiblePool payload length = refl
by_kind kind.TooWide payload length = refl
by_kind kind.NotListed payload length = refl
by_kind kind.Rejected payload length = refl
by_kind kind.PoolFull payload length = refl
by_kind kind.Lost payload length = refl
by_kind kind.FragmentConsumed payload length = refl
by_kind kind.MessageComplete payload length = refl

-- no byte that the call needs was cut
abbrev Whole : Call → Type 0
Whole c = needed_cut original (within (slots_of (fresh_pool 4))) (record { pgns = c.pgns; heard = c.heard }) ≡ false

announces_whole : (n : ℕ) → Whole (announces n 0 35)
announces_whole n = none_cut original (within (slots_of (fresh_pool 4))) (announces n 0 35) (unfold announces frame in refl)

announces_bare : (n : ℕ) → (announces n 0 35).heard.part ≡ 0
unfolding announces frame
announces_bare n = refl

fresh_bare : any_head has_part (slots_of (fresh_pool 4)) ≡ false
unfolding ran has_part any_head
fresh_bare = refl

module _ (f : Receive) (meets : Demand2 f) where
  as_steps : (c : Call) → c.heard.part ≡ 0 → Whole c → as_original (first f c) ≡ firstly c
  unfolding Demand2
  as_steps c bare whole = meets c.pgns c.heard (fresh_pool 4) fresh_counters (unfold fresh_pool_in fresh_pool in refl) (unfold fresh_pool_in fresh_pool in refl) fresh_bare bare whole

  answers_as : (c : Call) → c.heard.part ≡ 0 → Whole c → read_reply (reply_of (first f c)) ≡ (firstly c).answer
  answers_as c bare whole = unfold as_original in ap (λ (o : Original). o.answer) (as_steps c bare whole)

  -- the two frames are not answered alike
  not_alike : (b : Bool) → ((c : Call) → is_message (read_reply (reply_of (first f c))) ≡ b) → ⊥
  not_alike b same =
      let six : b ≡ true = sym (same (announces 6 0 35)) ∙ ap is_message (answers_as (announces 6 0 35) (announces_bare 6) (announces_whole 6)) ∙ six_completes in
      let nothing : b ≡ false = sym (same (announces 0 0 35)) ∙ ap is_message (answers_as (announces 0 0 35) (announces_bare 0) (announces_whole 0)) ∙ nothing_completes in
      true≢false (sym six ∙ nothing)

  pub rejects_always_ignored : AlwaysIgnores f → ⊥
  unfolding AlwaysIgnores
  rejects_always_ignored ignores = not_alike false (λ c. ap is_message (ignores c.pgns c.heard (fresh_pool 4) fresh_counters) ∙ (unfold is_message in refl))

  of_one_kind : (k : Kind) → OneKind k f → (c : Call) → is_message (read_reply (reply_of (first f c))) ≡ completes k
  unfolding OneKind reply_of
  of_one_kind k one c = by_kind (first f c).kind (first f c).payload (first f c).length ∙ ap completes (one c.pgns c.heard (fresh_pool 4) fresh_counters)

  pub rejects_one_kind : (k : Kind) → OneKind k f → ⊥
  rejects_one_kind k one = not_alike (completes k) (of_one_kind k one)

  pub rejects_always_consumed : OneKind kind.FragmentConsumed f → ⊥
  rejects_always_consumed = rejects_one_kind kind.FragmentConsumed

  pub rejects_always_complete : OneKind kind.MessageComplete f → ⊥
  rejects_always_complete = rejects_one_kind kind.MessageComplete

-- ---- never storing

-- the first of P10's frames leaves its first byte in the pool
seven_stores : get_or (firstly (announces 7 0 35)).pool.bytes 0 0 ≡ 1
unfolding ran announces frame original_of original_if original_event continued_at happens
seven_stores = refl

fresh_byte : get_or (fresh_pool 4).bytes 0 0 ≡ 0
unfolding fresh_pool_in fresh_pool
fresh_byte = refl

pub rejects_never_stores : (f : Receive) → Demand2 f → NeverStores f → ⊥
unfolding NeverStores
rejects_never_stores f meets never =
    let c : Call = announces 7 0 35 in
    let kept : (first f c).pool.bytes ≡ (fresh_pool 4).bytes = never c.pgns c.heard (fresh_pool 4) fresh_counters in
    let byte : (get_or (first f c).pool.bytes 0 0 ≡ get_or (fresh_pool 4).bytes 0 0) = ap (λ (l : List ℕ). get_or l 0 0) kept in
    let stored : get_or (first f c).pool.bytes 0 0 ≡ get_or (firstly c).pool.bytes 0 0 = unfold as_original in ap (λ (o : Original). get_or o.pool.bytes 0 0) (as_steps f meets c (announces_bare 7) (announces_whole 7)) in
    omega (arith, stored, byte, seven_stores, fresh_byte)

-- the receive call that only lacks the stores: it gives another message on P10's frames
unfoldable pub stores_nothing : Parts
stores_nothing =
    record {
      opening = λ (f : Heard) (s : Slot). record { head = opened_head f; buffer = s.buffer };
      copying = λ (f : Heard) (s : Slot). record { head = copied_head f s.head; buffer = s.buffer };
      at_once = untouched;
      breaking = reset_slot;
      ending = reset_slot;
      straying = Some Lost;
      delivering = λ (f : Heard) (s : Slot). take s.head.expected_size s.buffer;
    }

-- its pool and counters after the first frame, and what it says to the second; and what document 01's steps give there
halfway : Received
halfway = first (by stores_nothing) (announces 7 0 35)

unfoldable pub last_of : Answer Answered → ℕ
last_of (refuses n carried) = 0
last_of (gives Ignored) = 0
last_of (gives FragmentConsumed) = 0
last_of (gives (MessageComplete bytes n)) = get_or bytes 6 0

nothing_says : last_of (read_reply (reply_of (by stores_nothing (goes_on 1 1 35).pgns (goes_on 1 1 35).heard halfway.pool halfway.counters))) ≡ 0
unfolding ran announces goes_on frame by step_by outcome_by slots_by mark_by said_by untouched stores_nothing halfway reply_of reply_by read_reply as_ignored last_of
nothing_says = refl

steps_say : last_of (original_of original (goes_on 1 1 35).pgns (goes_on 1 1 35).heard halfway.pool halfway.counters).answer ≡ 7
unfolding ran announces goes_on frame by step_by outcome_by slots_by mark_by said_by untouched stores_nothing halfway original_of original_if original_event continued_at happens answer_of whole last_of
steps_say = refl

halfway_made : Made pools.Original AsOriginal halfway.pool
unfolding ran announces frame by step_by outcome_by halfway
halfway_made = record { of_kind = refl; in_mode = refl }

halfway_bare : any_head has_part (slots_of halfway.pool) ≡ false
unfolding ran announces frame by step_by outcome_by slots_by stores_nothing halfway has_part any_head
halfway_bare = refl

pub rejects_stores_nothing : Demand2 (by stores_nothing) → ⊥
unfolding Demand2
rejects_stores_nothing meets =
    let c : Call = goes_on 1 1 35 in
    let same : last_of (read_reply (reply_of (by stores_nothing c.pgns c.heard halfway.pool halfway.counters))) ≡ last_of (original_of original c.pgns c.heard halfway.pool halfway.counters).answer =
    unfold as_original in ap (λ (o : Original). last_of o.answer) (meets c.pgns c.heard halfway.pool halfway.counters halfway_made.of_kind halfway_made.in_mode halfway_bare (unfold goes_on frame in refl) (none_cut original (within (slots_of halfway.pool)) c (unfold goes_on frame in refl))) in
    omega (arith, same, nothing_says, steps_say)
