-- Every beginning of a run is a run, and neither the ledger nor the answers take back what they said: so demand 3 holds at every moment of a run.
-- And what follows of it: no call is refused by 1; and what a batch after any run leaves and says.
-- Assumes nothing.
use mathlib.Core.Bool.{Bool, true, false, not, ◌||◌}
use mathlib.Core.List.{List, [], ◌∷◌, ◌++◌, map, append_assoc, append-nil}
use mathlib.Core.Path.{◌≡◌, refl, sym, ap, subst, ◌∙◌}
use Prim.Native.Nat.{ℕ, suc, ◌+◌, ◌≤◌, ◌<◌}
use native.Mathlib.Omega.{arith}
use lib.ListN.{length, get_or, drop, length-append}
use lib.Seq.{drop-drop}
use Rattle.base.specs.Answer.{refuses, code_of}
use Rattle.base.specs.Pick.{pick}
use Rattle.base.specs.Lists.{any}
use Rattle.session.specs.declared.Counters.{Counters}
use Rattle.session.specs.declared.Kind.{Kind}
use Rattle.session.specs.declared.Kind.TheVariants as kind
use Rattle.session.specs.Rules.{Rules}
use Rattle.assembler.specs.declared.Pool.{Pool}
use Rattle.assembler.specs.Call.{Call}
use Rattle.assembler.specs.Slots.{impossible}
use Rattle.assembler.specs.View.{slots_of, receive_of}
use Rattle.session.specs.declared.PoolKind.{PoolKind}
use Rattle.session.specs.declared.PoolKind.TheVariants.{Original}
use Rattle.assembler.specs.Promises.{rules_of, same_kind}
use Rattle.batch.specs.declared.Batch.{Batch}
use Rattle.std.specs.Prelude.{Err}
use Rattle.batch.specs.declared.BatchError.TheVariants.{ImpossiblePool}
use Rattle.batch.specs.Lengths.{too_short}
use Rattle.batch.specs.Rows.{refuses_pool, Rows, run_of, leaves, refused_by, batch_of, of_batched, frames_in, Batches}
use Rattle.ledger.specs.Ledger.{Message, Entry, Ledger, tell_one, tell, tells, written, blank, ledger_of, briefly, delivery, kind_due, saying, saying_due, Saying}
use Rattle.ledger.specs.Ledger as book
use Rattle.ledger.specs.Demand3.{Seen, Agreed, Closes}
use Rattle.ledger.specs.Rows.{RowsDue}
use Rattle.ledger.specs.Runs.{Empty, State, start, sources_of, seen_in, after_call, after_batch, calls_of, Called, batched, Ran, stop, on}
use Rattle.ledger.specs.Assemblers.{Receive, receives}
use Rattle.ledger.proofs.Rows.{batch_rows}
use Rattle.ledger.proofs.Demand3.{demand_3, ran_made, ran_taken, pool_possible}
use mathlib.Core.Option.{Option, none, some}

-- ---- runs after runs

pub ran_append : {z x y : State} {cs ds : List Call} → Ran z cs x → Ran x ds y → Ran z (cs ++ ds) y
ran_append stop r = r
ran_append {y = y} {ds = ds} (on {z} {cs = early} {ds = later} c q) r = subst (λ (l : List Call). Ran z l y) (sym (append_assoc early later ds)) (on c (ran_append q r))

ran_one : {z x : State} {cs : List Call} → Called z cs x → Ran z cs x
ran_one {z} {x} {cs} c = subst (λ (l : List Call). Ran z l x) (append-nil cs) (on c stop)

-- demand 3 at the end of the first calls of any run
pub at_every_moment : (p : Pool) → Empty p → {cs ds : List Call} {x y : State} → Ran (start p) cs x → Ran x ds y → length (cs ++ ds) ≤ 4294967295 → Closes (rules_of p) (seen_in x) (ledger_of (rules_of p) (sources_of p) cs)
at_every_moment p e {cs} {ds} r s l = demand_3 p e r (omega (arith, length-append cs ds))

-- ---- nothing is taken back

drop_one : {A : Type 0} (k : ℕ) (l l' : List A) (a : A) → drop k l ≡ a ∷ l' → drop (suc k) l ≡ l'
drop_one k l l' a e =
    let s : k + 1 ≡ suc k = omega arith in ap (λ (i : ℕ). drop i l) (sym s) ∙ sym (drop-drop 1 k l) ∙ ap (drop 1) e

module _ (R : Rules) where
  tells_append : (L : Ledger) (cs ds : List Call) → tells (tell_one R) L (cs ++ ds) ≡ tells (tell_one R) (tells (tell_one R) L cs) ds
  unfolding tells
  tells_append L [] ds = refl
  tells_append L (c ∷ cs) ds = tells_append (tell (tell_one R) L c) cs ds

  entries_kept : (L : Ledger) (ds : List Call) → drop (length ds) (tells (tell_one R) L ds).entries ≡ L.entries
  unfolding tells tell written
  entries_kept L [] = refl
  entries_kept L (d ∷ ds) = drop_one (length ds) (tells (tell_one R) (tell (tell_one R) L d) ds).entries L.entries _ (entries_kept (tell (tell_one R) L d) ds)

  -- the ledger of a longer run has the shorter run's entries, and newer ones
  pub ledger_kept : (kept : List ℕ) (cs ds : List Call) → drop (length ds) (ledger_of R kept (cs ++ ds)).entries ≡ (ledger_of R kept cs).entries
  unfolding ledger_of
  ledger_kept kept cs ds = rw (tells_append (blank kept) cs ds) (entries_kept (tells (tell_one R) (blank kept) cs) ds)

said_kept : (f : Receive) (z : State) (ds : List Call) → drop (length ds) (receives f z ds).said ≡ z.said
unfolding receives after_call
said_kept f z [] = refl
said_kept f z (d ∷ ds) =
    let z' : State = after_call z (f d.pgns d.heard z.pool z.counters) in drop_one (length ds) (receives f z' ds).said z.said _ (said_kept f z' ds)

-- and so have its answers
pub answers_kept : {z y : State} {ds : List Call} → Ran z ds y → drop (length ds) y.said ≡ z.said
answers_kept {z} {ds = ds} r = rw (ran_taken r).is (said_kept (receive_of (rules_of z.pool)) z ds)

-- ---- what follows

-- of a pool that it does not refuse a batch is refused by 27 or not at all
by_length : (R : Rules) (list : List ℕ) (w : Rows) (p : Pool) (k : Counters) (kinds lengths arena : List ℕ) → refuses_pool R p ≡ false → (batch_of R list w p k kinds lengths arena).answer ≡ refuses 1 [] → ⊥
unfolding batch_of pick refused_by leaves
by_length R list w p k kinds lengths arena e = rw e (go (too_short (length w.times) (length w.pgns) (length w.sources) (length w.bytes) (length kinds) (length lengths)))
  where
    go : (b : Bool) → (pick false (refused_by 1 p k kinds lengths arena) (pick b (refused_by 27 p k kinds lengths arena) (leaves (run_of R list w (length arena) p k) kinds lengths arena))).answer ≡ refuses 1 [] → ⊥
    go true one = omega (arith, ap code_of one)
    go false one = omega (arith, ap code_of one)

-- no answer that the ledger calls for is a refusal
unfoldable pub says_refused : Saying → Bool
says_refused a = refusal a.kind
  where
    refusal : Kind → Bool
    refusal kind.ImpossiblePool = true
    refusal kind.TooWide = true
    refusal kind.NotListed = false
    refusal kind.Rejected = false
    refusal kind.PoolFull = false
    refusal kind.Lost = false
    refusal kind.FragmentConsumed = false
    refusal kind.MessageComplete = false

briefly_says : (d : book.Deed) → says_refused (briefly (kind_due d)) ≡ false
unfolding says_refused briefly kind_due
briefly_says book.Unlisted = refl
briefly_says book.BadFrame = refl
briefly_says book.NoSlot = refl
briefly_says book.Stray = refl
briefly_says book.AtOnce = refl
briefly_says book.Opening = refl
briefly_says book.Restarting = refl
briefly_says book.Reclaiming = refl
briefly_says book.Copied = refl
briefly_says book.Delivered = refl
briefly_says book.Broken = refl

delivery_says : (m : Option Message) → says_refused (delivery m) ≡ false
unfolding says_refused delivery briefly
delivery_says none = refl
delivery_says (some m) = refl

saying_says : (b : Bool) (d : book.Deed) (m : Option Message) → says_refused (pick b (delivery m) (briefly (kind_due d))) ≡ false
unfolding pick
saying_says true d m = delivery_says m
saying_says false d m = briefly_says d

none_refused : (es : List Entry) → any says_refused (map saying_due es) ≡ false
unfolding any saying_due saying
none_refused [] = refl
none_refused (e ∷ es) = rw (saying_says (book.is_one_of (book.AtOnce ∷ book.Delivered ∷ []) e.deed) e.deed e.message, none_refused es)

pub never_refused : {s : Seen} {L : Ledger} → Agreed s L → any says_refused s.said ≡ false
never_refused {L = L} a = rw a.answers (none_refused L.entries)

not_refused : (R : Rules) (p : Pool) → p.kind ≡ Original → impossible R (slots_of p) ≡ false → refuses_pool R p ≡ false
unfolding refuses_pool same_kind
not_refused R p own fine = ap (λ (d : PoolKind). not (same_kind Original d) || impossible R (slots_of p)) own ∙ fine

-- nor is a batch on a pool of the original's kind: what it is refused by, if anything, is 27
pub batch_not_impossible : (p : Pool) → Empty p → p.kind ≡ Original → {cs : List Call} {y : State} → Ran (start p) cs y → length cs ≤ 4294967295
    → {list times pgns sources bytes kinds lengths arena : List ℕ} {r : Batch} {kinds' lengths' arena' : List ℕ}
    → Batches list times pgns sources bytes y.pool y.counters kinds lengths arena r kinds' lengths' arena' → r.result ≡ Err ImpossiblePool → ⊥
batch_not_impossible p e own {cs} {y} run l {list} {times} {pgns} {sources} {bytes} {kinds} {lengths} {arena} {r} h one =
    let w : Rows = record { times = times; pgns = pgns; sources = sources; bytes = bytes } in
    let refused : (batch_of (rules_of y.pool) list w y.pool y.counters kinds lengths arena).answer ≡ refuses 1 [] = sym h.leaves_these.answer ∙ ap of_batched one ∙ (unfold of_batched in refl) in
    let kind-kept : y.pool.kind ≡ Original = (ran_made run).of_kind ∙ (unfold start in own) in
    let taken : refuses_pool (rules_of y.pool) y.pool ≡ false = not_refused (rules_of y.pool) y.pool kind-kept (pool_possible p e run l) in
    by_length (rules_of y.pool) list w y.pool y.counters kinds lengths arena taken refused

-- a batch after any run: what is seen then closes with the ledger of its frames too, and its rows of kinds and lengths and its arena hold what the ledger's
-- newest entries call for
pub demand_3_batch : (p : Pool) → Empty p → {cs : List Call} {y : State} → Ran (start p) cs y
    → {list times pgns sources bytes kinds lengths arena : List ℕ} {r : Batch} {kinds' lengths' arena' : List ℕ} → ((i : ℕ) → get_or bytes i 0 < 256)
    → Batches list times pgns sources bytes y.pool y.counters kinds lengths arena r kinds' lengths' arena'
    → (ds : List Call) → ds ≡ cs ++ calls_of list (record { times = times; pgns = pgns; sources = sources; bytes = bytes }) (frames_in r.result) 0 → length ds ≤ 4294967295
    → Closes (rules_of p) (seen_in (after_batch y r kinds' lengths' arena')) (ledger_of (rules_of p) (sources_of p) ds) × RowsDue (frames_in r.result) (map saying_due (ledger_of (rules_of p) (sources_of p) ds).entries) kinds lengths arena kinds' lengths' arena'
unfolding seen_in
demand_3_batch p e {y = y} run {r = r} {kinds' = kinds'} {lengths' = lengths'} {arena' = arena'} small h ds is l =
    let whole : Ran (start p) ds (after_batch y r kinds' lengths' arena') = rw is (ran_append run (ran_one (batched small h))) in
    let c = demand_3 p e whole l in
    (c, rw (← c.agreed.answers) (batch_rows y small h))
