-- Demand 3, proved: of every run of the public calls, mixed in any order, at document 01's own rules; of the receive call at every test for silence and for the
-- key; and of the steps at every limit too.
-- Assumes nothing.
use mathlib.Core.Bool.{false}
use mathlib.Core.List.{List, [], ◌∷◌, ◌++◌}
use mathlib.Core.Path.{◌≡◌, refl, sym, ap, subst, ◌∙◌}
use Prim.Native.Nat.{ℕ, ◌≤◌}
use lib.ListN.{length, replicate}
use Rattle.base.specs.Answer.{Answer, gives, refuses}
use Rattle.session.specs.declared.Heard.{Heard}
use Rattle.session.specs.declared.Counters.{Counters}
use Rattle.session.specs.Rules.{Rules, rules_by}
use Rattle.session.specs.Counting.{most}
use Rattle.assembler.specs.declared.Pool.{Pool}
use Rattle.assembler.specs.declared.Processed.{Processed}
use Rattle.assembler.specs.declared.Received.{Received}
use Rattle.assembler.specs.declared.Arrival.{Arrival}
use Rattle.assembler.specs.Arrivals.{ArrivalWithLength}
use Rattle.assembler.specs.Arrivals.{heard_of, cut_to, heard_with_length}
use Rattle.assembler.specs.Call.{Call, EightBytes}
use Rattle.assembler.specs.Possible.{FrameOk, hears, refused}
use Rattle.assembler.specs.Slots.{fresh_slots, impossible}
use Rattle.assembler.specs.Step.{step}
use Rattle.assembler.specs.Runs.{fresh_world, call_all}
use Rattle.assembler.specs.View.{slots_of, receive_of}
use Rattle.assembler.specs.Promises.{rules_of, at_original, ReceivesHeard, ProcessesHeard}
use Rattle.assembler.proofs.Entries.{answer_steps, answer_refused, filled_ok, ok_original, ok_by_id, ok_by_id_with_length}
use Rattle.assembler.proofs.Views.{Made, made_kept}
use Rattle.assembler.proofs.Promised.{received_by, processed_by}
use Rattle.assembler.proofs.ByCalls.{same_rules}
use Rattle.ledger.specs.Ledger.{ledger_of}
use Rattle.ledger.specs.Demand3.{Closes}
use Rattle.ledger.specs.Runs.{Empty, State, start, sources_of, seen_in, saying_of, calls_heard, said_to, after_call, after_entry, after_lent, Called, received, received_with_length, processed, processed_with_length, received_by_id, received_by_id_with_length, processed_by_id, processed_by_id_with_length, batched, Ran, stop, on}
use Rattle.ledger.specs.Assemblers.{Demand3, AllOk, none, more, receives, seen_after, stepped}
use Rattle.ledger.proofs.Run.{begun, follows, never_impossible, agreed}
use Rattle.ledger.proofs.Admission.{admitted}
use Rattle.ledger.proofs.Start.{empty_follows, empty_sized, fresh_follows}
use Rattle.ledger.proofs.Received.{same_seen, run_same}
use Rattle.ledger.proofs.Rows.{Taken, batch_taken}

-- of the steps: every limit, every pool size up to it, every test for silence, every test for the key
pub demand_3_steps : (R : Rules) (n : ℕ) → n ≤ R.limit → Demand3 R (replicate n 0) (stepped (step R) R n)
unfolding Demand3 stepped most fresh_world begun
demand_3_steps R n h cs oks l =
    let f = follows R (fresh_slots R n) (replicate n 0) (fresh_follows R n h) oks l in
    record {
      agreed = agreed R (replicate n 0) cs (call_all (step R) (begun (fresh_slots R n)) cs) f;
      admitted = λ c. admitted R (call_all (step R) (begun (fresh_slots R n)) cs) (ledger_of R (replicate n 0) cs) c f;
    }

-- of the receive call, from any empty pool
pub demand_3_rules : (R : Rules) (p : Pool) → Empty p → p.size ≤ R.limit → Demand3 R (sources_of p) (seen_after (receive_of R) p)
unfolding Demand3 seen_after most
demand_3_rules R p e h cs oks l =
    let start-follows = empty_follows R p e h in
    let f = follows R (slots_of p) (sources_of p) start-follows oks l in
    let same = same_seen (receives (receive_of R) (start p) cs) (call_all (step R) (begun (slots_of p)) cs) (run_same R p (empty_sized p e) start-follows oks l) in
    rw same
    (record {
      agreed = agreed R (sources_of p) cs (call_all (step R) (begun (slots_of p)) cs) f;
      admitted = λ c. admitted R (call_all (step R) (begun (slots_of p)) cs) (ledger_of R (sources_of p) cs) c f;
    })

-- ---- a run of the public calls is a run of the receive call

-- what came by an entry is one frame, or none: then nothing moved
module _ (z : State) (pgns : List ℕ) where
  taken_one : {a : Answer Heard} (r : Received) → FrameOk (rules_of z.pool) pgns a → ReceivesHeard pgns a z.pool z.counters r → Taken z (after_entry a z r) (calls_heard pgns a)
  unfolding receives after_entry after_call said_to calls_heard
  taken_one r (hears {f} ok fits) h =
      let e = received_by pgns (gives f) z.pool z.counters h ∙ answer_steps pgns z.pool z.counters f in
      record { is = ap (after_call z) e; oks = more ok fits none }
  taken_one r (refused {n} {carried}) h =
      let e = received_by pgns (refuses n carried) z.pool z.counters h ∙ answer_refused pgns z.pool z.counters n carried in
      record { is = rw e; oks = none }

  taken_lent : {a : Answer Heard} (r : Processed) (after : Counters) → FrameOk (rules_of z.pool) pgns a → ProcessesHeard pgns a z.pool z.counters r after
      → Taken z (after_lent a z r after) (calls_heard pgns a)
  unfolding receives after_lent after_call said_to calls_heard saying_of
  taken_lent r after (hears {f} ok fits) h =
      let e = processed_by pgns (gives f) z.pool z.counters h in
      record { is = rw (e.0, e.1, answer_steps pgns z.pool z.counters f); oks = more ok fits none }
  taken_lent r after (refused {n} {carried}) h =
      let e = processed_by pgns (refuses n carried) z.pool z.counters h in
      record { is = rw (e.0, e.1, answer_refused pgns z.pool z.counters n carried); oks = none }

  ok_of : (a : Arrival) → EightBytes a.«data» → FrameOk (rules_of z.pool) pgns (at_original z.pool (heard_of a))
  unfolding heard_of
  ok_of a ok = ok_original z.pool pgns (heard_of a) ok refl

  ok_with_length : (x : ArrivalWithLength) → EightBytes x.arrival.«data» → FrameOk (rules_of z.pool) pgns (at_original z.pool (heard_with_length x))
  unfolding heard_with_length cut_to heard_of
  ok_with_length x ok = ok_original z.pool pgns (heard_with_length x) (filled_ok x.length x.arrival.«data» ok) refl

taken : {z x : State} {cs : List Call} → Called z cs x → Taken z x cs
taken {z} (received pgns a {r} ok h) = taken_one z pgns r (ok_of z pgns a ok) h
taken {z} (received_with_length pgns x {r} ok h) = taken_one z pgns r (ok_with_length z pgns x ok) h
taken {z} (processed pgns a {r} {after} ok h) = taken_lent z pgns r after (ok_of z pgns a ok) h
taken {z} (processed_with_length pgns x {r} {after} ok h) = taken_lent z pgns r after (ok_with_length z pgns x ok) h
taken {z} (received_by_id pgns a {r} ok h) = taken_one z pgns r (ok_by_id z.pool pgns a ok) h
taken {z} (received_by_id_with_length pgns x {r} ok h) = taken_one z pgns r (ok_by_id_with_length z.pool pgns x ok) h
taken {z} (processed_by_id pgns a {r} {after} ok h) = taken_lent z pgns r after (ok_by_id z.pool pgns a ok) h
taken {z} (processed_by_id_with_length pgns x {r} {after} ok h) = taken_lent z pgns r after (ok_by_id_with_length z.pool pgns x ok) h
taken {z} (batched small h) = batch_taken z small h

ok_both : {R : Rules} {cs ds : List Call} → AllOk R cs → AllOk R ds → AllOk R (cs ++ ds)
ok_both none h = h
ok_both (more ok fits g) h = more ok fits (ok_both g h)

pub receives_append : (f : List ℕ → Heard → Pool → Counters → Received) (z : State) (cs ds : List Call) → receives f z (cs ++ ds) ≡ receives f (receives f z cs) ds
unfolding receives
receives_append f z [] ds = refl
receives_append f z (c ∷ cs) ds = receives_append f (after_call z (f c.pgns c.heard z.pool z.counters)) cs ds

-- ---- no call changes the kind or the mode, and no run

receives_made : (R : Rules) (z : State) (cs : List Call) → Made z.pool.kind z.pool.mode (receives (receive_of R) z cs).pool
unfolding receives after_call
receives_made R z [] = record { of_kind = refl; in_mode = refl }
receives_made R z (c ∷ cs) =
    let r = receive_of R c.pgns c.heard z.pool z.counters in
    let one = made_kept R c.pgns c.heard z.pool z.counters in
    let rest = receives_made R (after_call z r) cs in
    record { of_kind = rest.of_kind ∙ one.of_kind; in_mode = rest.in_mode ∙ one.in_mode }

taken_made : {z y : State} {cs : List Call} → Taken z y cs → Made z.pool.kind z.pool.mode y.pool
taken_made {z} {y} {cs} t = subst (λ (u : State). Made z.pool.kind z.pool.mode u.pool) (sym t.is) (receives_made (rules_of z.pool) z cs)

pub ran_taken : {z y : State} {cs : List Call} → Ran z cs y → Taken z y cs
ran_taken stop = record { is = unfold receives in refl; oks = none }
ran_taken (on {z} {x} {y} {cs} {ds} c r) =
    let one = taken c in
    let rest = ran_taken r in
    let R = rules_of z.pool in
    let same : rules_of x.pool ≡ R = same_rules z.pool x.pool (taken_made one) in
    record {
      is =
          rest.is
          ∙ ap (λ (S : Rules). receives (receive_of S) x ds) same
          ∙ ap (λ (u : State). receives (receive_of R) u ds) one.is
          ∙ sym (receives_append (receive_of R) z cs ds);
      oks = ok_both one.oks (subst (λ (S : Rules). AllOk S ds) same rest.oks);
    }

pub ran_made : {z y : State} {cs : List Call} → Ran z cs y → Made z.pool.kind z.pool.mode y.pool
ran_made r = taken_made (ran_taken r)

-- Demand 3: wherever up to 4,294,967,295 frames come to by public calls that keep their promises, from an empty pool of either kind, in either mode, and zero counters, what is
-- seen there agrees with the ledger of those frames, and the next call is admitted as it should be
pub demand_3 : (p : Pool) → Empty p → {cs : List Call} {y : State} → Ran (start p) cs y → length cs ≤ 4294967295 → Closes (rules_of p) (seen_in y) (ledger_of (rules_of p) (sources_of p) cs)
unfolding start
demand_3 p e {cs} r l =
    let t = ran_taken r in
    rw t.is (unfold Demand3 seen_after in demand_3_rules (rules_of p) p e (unfold rules_of rules_by in e.size) cs t.oks l)

-- the pool that a run leaves is possible
pub pool_possible : (p : Pool) → Empty p → {cs : List Call} {y : State} → Ran (start p) cs y → length cs ≤ 4294967295 → impossible (rules_of y.pool) (slots_of y.pool) ≡ false
unfolding most start
pool_possible p e {cs} {y} r l =
    let t = ran_taken r in
    let R = rules_of p in
    let begins = empty_follows R p e (unfold rules_of rules_by in e.size) in
    let same = run_same R p (empty_sized p e) begins t.oks l in
    let fine = never_impossible R (call_all (step R) (begun (slots_of p)) cs) (ledger_of R (sources_of p) cs) (follows R (slots_of p) (sources_of p) begins t.oks l) in
    ap (λ (S : Rules). impossible S (slots_of y.pool)) (same_rules p y.pool (taken_made t)) ∙ ap (λ (z : State). impossible R (slots_of z.pool)) t.is ∙ ap (impossible R) same.pool ∙ fine
