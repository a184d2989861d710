-- The four names and the counters tell the same, of every call. Assumes nothing.
use Prim.Native.Nat.{ℕ, zero, suc, ◌+◌}
use mathlib.Core.Path.{◌≡◌, refl, ◌∙◌}
use mathlib.Core.Bool.{Bool, true, false}
use mathlib.Core.List.{List, [], ◌∷◌, ◌++◌}
use native.Mathlib.Omega.{arith}
use lib.ListN.{length, take}
use lib.Seq.{take_at}
use lib.Dec.{eqb, ltb}
use Rattle.base.specs.Answer.{Answer, gives, refuses}
use Rattle.base.specs.Lists.{total}
use Rattle.base.specs.Pick.{pick}
use Rattle.book.specs.Book.{as_number, how_many}
use Rattle.session.specs.declared.Counters.{Counters}
use Rattle.session.specs.declared.Heard.{Heard}
use Rattle.session.specs.declared.Kind.{Kind}
use Rattle.session.specs.declared.Kind.TheVariants as kind
use Rattle.session.specs.declared.Kind.TheVariants.{NotListed, Rejected, PoolFull, Lost}
use Rattle.session.specs.declared.Mode.{Mode}
use Rattle.session.specs.declared.PoolKind.{PoolKind}
use Rattle.session.specs.Rules.{Rules}
use Rattle.session.specs.Counting.{raise, raised, expired_mark}
use Rattle.session.specs.Kinds.{kind_number}
use Rattle.assembler.specs.declared.Pool.{Pool}
use Rattle.assembler.specs.declared.Processed.{Processed}
use Rattle.assembler.specs.declared.Received.{Received}
use Rattle.assembler.specs.Call.{Call}
use Rattle.assembler.specs.Slots.{Slot, Slots, within, impossible}
use Rattle.assembler.specs.Step.{Event, not_listed, rejected, short_message, pool_full, opened, stray, broken, copied, completed, event_of, mark_of, message, said_of, outcome, step_if, step}
use Rattle.assembler.specs.View.{slots_of, why_kind, reply_kind, shown, receive_of}
use Rattle.assembler.specs.Promises.{rules_of, answer_to, ReceivesHeard, ProcessesHeard}
use Rattle.assembler.proofs.Entries.{answer_steps, answer_refused}
use Rattle.assembler.proofs.Promised.{received_by, processed_by}
use Rattle.batch.specs.declared.Batch.{Batch}
use Rattle.batch.specs.Lengths.{too_short}
use Rattle.batch.specs.Rows.{Rows, frame_in_rows, Run, empty_run, took, answer_in, run_from, run_of, BatchLeft, over, leaves, refuses_pool, refused_by, batch_of, frames_in, taken_in, Batches}
use Rattle.ledger.specs.Names.{raised_by, TellsAlike, entries, raised_times, RowTellsAlike}

module _ (f : Heard) (ss : List Slot) (k : Counters) where
  event_alike : (e : Event) → TellsAlike (reply_kind (gives (said_of f ss e))) k (raised (mark_of e) k)
  unfolding said_of message reply_kind why_kind mark_of raised expired_mark raised_by kind_number pick
  event_alike not_listed = record { unknown = refl; rejected = refl; exhausted = refl; lost = refl; expired = λ n. refl }
  event_alike rejected = record { unknown = refl; rejected = refl; exhausted = refl; lost = refl; expired = λ n. refl }
  event_alike short_message = record { unknown = refl; rejected = refl; exhausted = refl; lost = refl; expired = λ n. refl }
  event_alike pool_full = record { unknown = refl; rejected = refl; exhausted = refl; lost = refl; expired = λ n. refl }
  event_alike (opened i true) = record { unknown = refl; rejected = refl; exhausted = refl; lost = refl; expired = λ n. absurd (n refl) }
  event_alike (opened i false) = record { unknown = refl; rejected = refl; exhausted = refl; lost = refl; expired = λ n. refl }
  event_alike stray = record { unknown = refl; rejected = refl; exhausted = refl; lost = refl; expired = λ n. refl }
  event_alike (broken i) = record { unknown = refl; rejected = refl; exhausted = refl; lost = refl; expired = λ n. refl }
  event_alike (copied i) = record { unknown = refl; rejected = refl; exhausted = refl; lost = refl; expired = λ n. refl }
  event_alike (completed i) = record { unknown = refl; rejected = refl; exhausted = refl; lost = refl; expired = λ n. refl }

step_alike : (b : Bool) (d : PoolKind) (m : Mode) (R : Rules) (p : Slots) (k : Counters) (c : Call) → TellsAlike (shown d m (step_if b R p k c)).kind k (shown d m (step_if b R p k c)).counters
unfolding step_if shown
step_alike true d m R p k c = unfold reply_kind raised_by kind_number pick in record { unknown = refl; rejected = refl; exhausted = refl; lost = refl; expired = λ n. refl }
step_alike false d m R p k c = unfold outcome in event_alike c.heard (within p) k (event_of R (within p) c)

call_alike : (R : Rules) (pgns : List ℕ) (f : Heard) (p : Pool) (k : Counters) → TellsAlike (receive_of R pgns f p k).kind k (receive_of R pgns f p k).counters
unfolding receive_of step
call_alike R pgns f p k = step_alike (impossible R (slots_of p)) p.kind p.mode R (slots_of p) k (record { pgns = pgns; heard = f })

-- a refusal at the entry raises none
refused_alike : (pgns : List ℕ) (n : ℕ) (carried : List ℕ) (p : Pool) (k : Counters) → TellsAlike (answer_to pgns (refuses n carried) p k).kind k (answer_to pgns (refuses n carried) p k).counters
refused_alike pgns n carried p k = rw (answer_refused pgns p k n carried) (unfold reply_kind in go (eqb n 8))
  where
    go : (b : Bool) → TellsAlike (pick b kind.TooWide kind.ImpossiblePool) k k
    go true = unfold pick raised_by kind_number in record { unknown = refl; rejected = refl; exhausted = refl; lost = refl; expired = λ n. refl }
    go false = unfold pick raised_by kind_number in record { unknown = refl; rejected = refl; exhausted = refl; lost = refl; expired = λ n. refl }

answer_alike : (pgns : List ℕ) (a : Answer Heard) (p : Pool) (k : Counters) → TellsAlike (answer_to pgns a p k).kind k (answer_to pgns a p k).counters
answer_alike pgns (gives f) p k = rw (answer_steps pgns p k f) (call_alike (rules_of p) pgns f p k)
answer_alike pgns (refuses n carried) p k = refused_alike pgns n carried p k

-- by value, with a length or without, by the identifier or not
pub tells_alike : {pgns : List ℕ} {a : Answer Heard} {p : Pool} {k : Counters} {r : Received} → ReceivesHeard pgns a p k r → TellsAlike r.kind k r.counters
tells_alike {pgns} {a} {p} {k} h = rw (received_by pgns a p k h) (answer_alike pgns a p k)

-- with the counters lent
pub tells_alike_lent : {pgns : List ℕ} {a : Answer Heard} {p : Pool} {before : Counters} {r : Processed} {after : Counters} → ProcessesHeard pgns a p before r after → TellsAlike r.kind before after
tells_alike_lent {pgns} {a} {p} {before} h =
    let is = processed_by pgns a p before h in
    rw (is.0, is.1) (answer_alike pgns a p before)

-- ---- a batch, by its row

total_last : (w : ℕ → ℕ) (row : List ℕ) (m : ℕ) → total w (row ++ (m ∷ [])) ≡ total w row + w m
unfolding total
total_last w [] m = omega arith
total_last w (x ∷ row) m = omega (arith, total_last w row m)

-- one entry more at the end of a row, where the counter stands at x
one_more : (name : Kind) (row : List ℕ) (m n x : ℕ) → x ≡ raised_times (entries name row) n → pick (eqb (kind_number name) m) (raise x) x ≡ raised_times (entries name (row ++ (m ∷ []))) n
unfolding entries how_many as_number raised_times pick
one_more name row m n x ex = rw ex (go (eqb (kind_number name) m) (total (λ a. as_number (eqb (kind_number name) a)) row) (total_last _ row m))
  where
    go : (b : Bool) (k : ℕ) {all : ℕ} → all ≡ k + as_number b → pick b (raise (raised_times k n)) (raised_times k n) ≡ raised_times all n
    go true k {all} e =
        let is : all ≡ suc k = omega (arith, e) in
        rw is refl
    go false k {all} e =
        let is : all ≡ k = omega (arith, e) in
        rw is refl

module _ (R : Rules) (l : List ℕ) (w : Rows) (k : Counters) where
  took_alike : (z : Run) (f : Heard) → RowTellsAlike z.kinds k z.counters → RowTellsAlike (took z (answer_in R l z f)).kinds k (took z (answer_in R l z f)).counters
  unfolding took answer_in raised_by
  took_alike z f h =
      let a = call_alike R l f z.pool z.counters in
      let m : ℕ = kind_number (receive_of R l f z.pool z.counters).kind in
      record {
        unknown = a.unknown ∙ one_more NotListed z.kinds m k.unknown_pgn z.counters.unknown_pgn h.unknown;
        rejected = a.rejected ∙ one_more Rejected z.kinds m k.rejected_frames z.counters.rejected_frames h.rejected;
        exhausted = a.exhausted ∙ one_more PoolFull z.kinds m k.pool_exhausted z.counters.pool_exhausted h.exhausted;
        lost = a.lost ∙ one_more Lost z.kinds m k.lost_fragments z.counters.lost_fragments h.lost;
      }

  either_alike : (b : Bool) (y z : Run) → RowTellsAlike y.kinds k y.counters → RowTellsAlike z.kinds k z.counters → RowTellsAlike (pick b y z).kinds k (pick b y z).counters
  unfolding pick
  either_alike true y z h g = h
  either_alike false y z h g = g

  run_alike : (room n i : ℕ) (z : Run) → RowTellsAlike z.kinds k z.counters → RowTellsAlike (run_from R l w room n i z).kinds k (run_from R l w room n i z).counters
  unfolding run_from
  run_alike room zero i z h = h
  run_alike room (suc n) i z h =
      either_alike (ltb room (length z.messages + (answer_in R l z (frame_in_rows w i)).length)) z _ h
      (run_alike room n (suc i) (took z (answer_in R l z (frame_in_rows w i))) (took_alike z (frame_in_rows w i) h))

  none_alike : RowTellsAlike [] k k
  unfolding entries how_many total raised_times
  none_alike = record { unknown = refl; rejected = refl; exhausted = refl; lost = refl }

  -- the entries that a batch wrote, and its counters
  abbrev Alike : BatchLeft → Type 0
  Alike b = RowTellsAlike (take (taken_in b.answer) b.kinds) k b.counters

  batch_alike : (p : Pool) (kinds lengths arena : List ℕ) → Alike (batch_of R l w p k kinds lengths arena)
  unfolding batch_of pick
  batch_alike p kinds lengths arena = go (refuses_pool R p) (too_short (length w.times) (length w.pgns) (length w.sources) (length w.bytes) (length kinds) (length lengths))
    where
      ran : Run
      ran = run_of R l w (length arena) p k

      written : take (length ran.kinds) (over kinds ran.kinds) ≡ ran.kinds
      written = unfold over in take_at ran.kinds _ (length ran.kinds) refl

      go : (bad short : Bool) → Alike (pick bad (refused_by 1 p k kinds lengths arena) (pick short (refused_by 27 p k kinds lengths arena) (leaves ran kinds lengths arena)))
      go true short = unfold refused_by taken_in in none_alike
      go false true = unfold refused_by taken_in in none_alike
      go false false = unfold leaves taken_in in rw written (unfold run_of empty_run in run_alike (length arena) (length w.times) 0 (empty_run p k) none_alike)

pub batch_tells_alike : {list times pgns sources bytes : List ℕ} {p : Pool} {k : Counters} {kinds lengths arena : List ℕ} {r : Batch} {kinds' lengths' arena' : List ℕ}
    → Batches list times pgns sources bytes p k kinds lengths arena r kinds' lengths' arena' → RowTellsAlike (take (frames_in r.result) kinds') k r.counters
batch_tells_alike {list} {times} {pgns} {sources} {bytes} {p} {k} {kinds} {lengths} {arena} h =
    let left = h.leaves_these in
    rw (left.taken, left.told, left.counted)
    (batch_alike (rules_of p) list (record { times = times; pgns = pgns; sources = sources; bytes = bytes }) k p kinds lengths arena)
