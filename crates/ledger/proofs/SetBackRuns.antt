-- The clock of a boat is set back by three hours, with half a message of source 35 in a pool of one slot; then source 36 begins a message, again and again.
-- As the original, the half message is held however often it does; where a clock set back is silence, the first of them reclaims it: in the pool and the counters,
-- and by the ledger. Assumes nothing.
use mathlib.Core.Bool.{true, false}
use mathlib.Core.List.{List, [], ◌∷◌, ◌++◌}
use mathlib.Core.Option.{some}
use mathlib.Core.Option as option
use mathlib.Core.Path.{◌≡◌, refl, ap, subst, ◌∙◌}
use Prim.Native.Nat.{ℕ, zero, suc, ◌<◌}
use native.Mathlib.Omega.{arith}
use lib.Dec.{lit<}
use Rattle.session.specs.declared.Mode.{Mode}
use Rattle.session.specs.declared.Mode.TheVariants.{AsOriginal, SetBackIsSilence}
use Rattle.session.specs.declared.PoolKind.TheVariants.{Original}
use Rattle.session.specs.Rules.{rules_by, base}
use Rattle.session.specs.Heads.{opened_head}
use Rattle.assembler.specs.declared.Arrival.{Arrival}
use Rattle.assembler.specs.Call.{Call, EightBytes}
use Rattle.assembler.specs.Slots.{impossible}
use Rattle.assembler.specs.Making.{fresh_pool_in}
use Rattle.assembler.specs.View.{slots_of}
use Rattle.assembler.specs.Arrivals.{heard_of}
use Rattle.assembler.specs.Promises.{rules_of, same_kind, entered, at_original, result_of, result_on, answer_to}
use Rattle.base.specs.Answer.{Answer, gives}
use Rattle.base.specs.Pick.{pick}
use Rattle.session.specs.declared.Heard.{Heard}
use Rattle.assembler.specs.declared.Received.{Received}
use Rattle.assembler.proofs.Entries.{frame, known_entered, answer_steps}
use Rattle.assembler.proofs.Views.{made_kept}
use Rattle.assembler.proofs.Promised.{promised}
use Rattle.ledger.specs.Ledger.{Message, Ledger, holds, Opening, Reclaiming, new_message, tell, tells, tell_one, ledger_of}
use Rattle.ledger.specs.Demand3.{is_opener}
use Rattle.ledger.specs.Runs.{State, start, sources_of, call, calls_heard, said_to, after_entry, Called, received, Ran, stop, on}
use Rattle.ledger.specs.SetBack.{Half, AllPassBy, none, more, only_room, Reclaims}
use Rattle.ledger.proofs.EveryFate.{ran, told}
use Rattle.ledger.proofs.SetBack.{set_back}

abbrev list : List ℕ
list = 127489 ∷ []

-- the first frame of a message of 26 bytes
unfoldable pub begins : ℕ → ℕ → Arrival
begins at from = record { now_ms = at; pgn = 127489; source_address = from; «data» = 0 ∷ 26 ∷ 1 ∷ 2 ∷ 3 ∷ 4 ∷ 5 ∷ 6 ∷ [] }

begins_ok : (at from : ℕ) → EightBytes (begins at from).«data»
unfolding begins
begins_ok at from = record { eight = refl; byte = lit< tt }

-- what a call leaves, under the rules of the pool that it is given
unfoldable pub next : State → Arrival → State
next z a = after_entry (at_original z.pool (heard_of a)) z (answer_to list (at_original z.pool (heard_of a)) z.pool z.counters)

-- source 35 begins, and the clock shows three hours
unfoldable pub halfway : Mode → State
halfway mode = next (start (fresh_pool_in Original mode 1)) (begins 10800000 35)

half : (mode : Mode) → Half (halfway mode).pool 0 (opened_head (heard_of (begins 10800000 35)))
unfolding ran rules_of entered same_kind result_of result_on answer_to said_to after_entry next halfway heard_of begins
half AsOriginal = record { within = omega arith; there = omega arith; here = refl; busy = refl }
half SetBackIsSilence = record { within = omega arith; there = omega arith; here = refl; busy = refl }

-- source 36 begins, n times, when the clock shows 0
unfoldable pub again : ℕ → List Call
again zero = []
again (suc n) = call list (heard_of (begins 0 36)) ∷ again n

unfoldable pub after : ℕ → State → State
after zero z = z
after (suc n) z = after n (next z (begins 0 36))

-- a pool of the original's kind hears each of them
heard : (z : State) (a : Arrival) → z.pool.kind ≡ Original → calls_heard list (at_original z.pool (heard_of a)) ≡ call list (heard_of a) ∷ []
unfolding calls_heard entered same_kind pick
heard z a own = rw own

next_kind : (z : State) (a : Arrival) → z.pool.kind ≡ Original → (next z a).pool.kind ≡ Original
unfolding next after_entry
next_kind z a own =
    let here : at_original z.pool (heard_of a) ≡ gives (heard_of a) = unfold entered same_kind pick in rw own in
    ap (λ (x : Answer Heard). (answer_to list x z.pool z.counters).pool.kind) here
    ∙ ap (λ (r : Received). r.pool.kind) (answer_steps list z.pool z.counters (heard_of a))
    ∙ (made_kept (rules_of z.pool) list (heard_of a) z.pool z.counters).of_kind ∙ own

runs : (n : ℕ) (z : State) → z.pool.kind ≡ Original → Ran z (again n) (after n z)
unfolding again after
runs zero z own = stop
runs (suc n) z own =
    let one : Called z (calls_heard list (at_original z.pool (heard_of (begins 0 36)))) (next z (begins 0 36)) =
    unfold next in
    received list (begins 0 36) (begins_ok 0 36) (promised list (at_original z.pool (heard_of (begins 0 36))) z.pool z.counters (known_entered Original z.pool (frame _)) refl) in
    subst (λ (cs : List Call). Ran z (cs ++ again n) (after (suc n) z)) (heard z (begins 0 36) own) (on one (runs n (next z (begins 0 36)) (next_kind z (begins 0 36) own)))

all_by : (n : ℕ) → AllPassBy (opened_head (heard_of (begins 10800000 35))) (again n)
unfolding ran again heard_of begins
all_by zero = none
all_by (suc n) = more {c = call list (heard_of (begins 0 36))} (record { other = refl; reading = omega arith }) (all_by n)

kind_so : (mode : Mode) → (halfway mode).pool.kind ≡ Original
unfolding ran entered same_kind result_of result_on answer_to said_to after_entry next halfway
kind_so mode = refl

made_so : (mode : Mode) → (halfway mode).pool.mode ≡ mode
unfolding ran entered same_kind result_of result_on answer_to said_to after_entry next halfway
made_so mode = refl

pub held_for_hours : (n : ℕ) → Half (after n (halfway AsOriginal)).pool 0 (opened_head (heard_of (begins 10800000 35)))
held_for_hours n = set_back.held (made_so AsOriginal) (half AsOriginal) (runs n (halfway AsOriginal) (kind_so AsOriginal)) (all_by n)

possible : impossible (rules_of (halfway SetBackIsSilence).pool) (slots_of (halfway SetBackIsSilence).pool) ≡ false
unfolding ran rules_of entered same_kind result_of result_on answer_to said_to after_entry next halfway heard_of begins
possible = refl

opens : is_opener (call list (heard_of (begins 0 36))) ≡ true
unfolding ran is_opener heard_of begins
opens = refl

earlier : (heard_of (begins 0 36)).now_ms < (opened_head (heard_of (begins 10800000 35))).last_seen_ms
unfolding opened_head heard_of begins
earlier = omega arith

one_slot : (halfway SetBackIsSilence).pool.size ≡ 1
unfolding ran rules_of entered same_kind result_of result_on answer_to said_to after_entry next halfway heard_of begins
one_slot = refl

pub reclaimed_at_once : Reclaims (call list (heard_of (begins 0 36))) 0 (halfway SetBackIsSilence) (after 1 (halfway SetBackIsSilence))
unfolding again
reclaimed_at_once =
    set_back.reclaimed (made_so SetBackIsSilence) possible (half SetBackIsSilence)
    (record { opens = opens; earlier = earlier; place = only_room (λ j low other. absurd (other (omega (arith, low, one_slot)))) })
    (runs 1 (halfway SetBackIsSilence) (kind_so SetBackIsSilence))

-- ---- the fate of the half message, by the ledger of these calls

abbrev half_message : Message
half_message = new_message 0 (call list (heard_of (begins 10800000 35)))

-- source 35 begins, and then source 36, n times
unfoldable pub told_in : Mode → ℕ → Ledger
told_in mode n = ledger_of (rules_by Original mode) (sources_of (fresh_pool_in Original mode 1)) (call list (heard_of (begins 10800000 35)) ∷ again n)

again_held : (n : ℕ) (L : Ledger) → L.places ≡ holds half_message ∷ [] → (tells (tell_one base) L (again n)).places ≡ holds half_message ∷ []
unfolding told again heard_of begins
again_held zero L e = e
again_held (suc n) L e = again_held n (tell (tell_one base) L (call list (heard_of (begins 0 36)))) (rw e refl)

pub told_as_held : (n : ℕ) → (told_in AsOriginal n).places ≡ holds half_message ∷ []
unfolding told told_in heard_of begins
told_as_held n = again_held n (ledger_of base (0 ∷ []) (call list (heard_of (begins 10800000 35)) ∷ [])) refl

pub told_as_reclaimed : (told_in SetBackIsSilence 1).entries
    ≡ record { number = 1; frame = call list (heard_of (begins 0 36)); deed = Reclaiming; message = some half_message }
    ∷ record { number = 0; frame = call list (heard_of (begins 10800000 35)); deed = Opening; message = option.none } ∷ []
unfolding told told_in again heard_of begins
told_as_reclaimed = refl
