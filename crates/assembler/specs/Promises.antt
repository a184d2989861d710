-- What the calls promise, each whole: the answer in 01's numbers and values, and all memory that goes in and out.
use Rattle.std.specs.Prelude.{Bool, true, false, List, [], ◌≡◌, ℕ}
use Rattle.base.specs.Answer.{Answer, gives, refuses}
use Rattle.base.specs.Pick.{pick}
use Rattle.session.specs.declared.Heard.{Heard}
use Rattle.session.specs.declared.Counters.{Counters}
use Rattle.session.specs.declared.Kind.{Kind}
use Rattle.session.specs.declared.PoolKind.{PoolKind}
use Rattle.session.specs.declared.PoolKind.TheVariants.{Original, Addressed}
use Rattle.session.specs.Rules.{Rules, rules_by}
use Rattle.assembler.specs.declared.Arrival.{Arrival}
use Rattle.assembler.specs.declared.ArrivalById.{ArrivalById}
use Rattle.assembler.specs.Arrivals.{ArrivalByIdWithLength}
use Rattle.assembler.specs.Arrivals.{ArrivalWithLength}
use Rattle.assembler.specs.declared.Pool.{Pool}
use Rattle.assembler.specs.declared.Processed.{Processed}
use Rattle.assembler.specs.declared.Received.{Received}
use Rattle.assembler.specs.Arrivals.{heard_of, heard_with_length, heard_by_id, heard_by_id_with_length}
use Rattle.assembler.specs.Step.{Reply, Outcome, step}
use Rattle.assembler.specs.View.{slots_of, pool_of, reply_kind, reply_by, reply_payload, reply_length}

-- the rules of the pool at hand: those of the kind and mode that it was made with
unfoldable pub rules_of : Pool → Rules
rules_of p = rules_by p.kind p.mode

-- ---- the entry of a kind

unfoldable pub same_kind : PoolKind → PoolKind → Bool
same_kind Original Original = true
same_kind Original Addressed = false
same_kind Addressed Original = false
same_kind Addressed Addressed = true

-- document 02, No. 12: refusal 1 "also covers a pool at the other kind's entry"; what was refused before, by 8, stays so
unfoldable pub entered : PoolKind → Pool → Answer Heard → Answer Heard
entered entry p (gives f) = pick (same_kind entry p.kind) (gives f) (refuses 1 [])
entered entry p (refuses n carried) = refuses n carried

-- at the entry of each kind
abbrev pub at_original : Pool → Heard → Answer Heard
at_original p f = entered Original p (gives f)

abbrev pub at_addressed : Pool → Answer Heard → Answer Heard
at_addressed p a = entered Addressed p a

-- ---- one call

-- what is answered, and the pool and counters after it
pub record Result : Type 0 where
  pub reply : Reply
  pub pool : Pool
  pub counters : Counters

-- an outcome's slots as the pool that it was, of its kind and in its mode
unfoldable pub result_of : Pool → Outcome → Result
result_of p o = record { reply = o.reply; pool = pool_of p.kind p.mode o.pool; counters = o.counters }

-- 01's steps, of this frame with this list, on this pool and these counters; with a refusal at the entry "the pool comes back unchanged"
unfoldable pub result_on : List ℕ → Answer Heard → Pool → Counters → Result
result_on pgns (gives f) p k = result_of p (step (rules_of p) (slots_of p) k (record { pgns = pgns; heard = f }))
result_on pgns (refuses n carried) p k = record { reply = refuses n carried; pool = p; counters = k }

-- an answer is the result's: "A complete message is its bytes, zeros up to 223, and its length; other answers carry 223 zeros and length 0." The kind, with
-- payload and length beside it, is the result's reply by 01's numbers, and the pool is the result's.
pub record Answers (o : Result) (kind : Kind) (payload : List ℕ) (length : ℕ) (pool : Pool) : Type 0 where
  pub told : reply_by kind payload length ≡ o.reply
  pub bytes : payload ≡ reply_payload o.reply
  pub size : length ≡ reply_length o.reply
  pub left : pool ≡ o.pool

-- by value: the answer, and the counters in it
pub record ReceivesHeard (pgns : List ℕ) (a : Answer Heard) (p : Pool) (k : Counters) (r : Received) : Type 0 where
  pub answer : Answers (result_on pgns a p k) r.kind r.payload r.length r.pool
  pub counted : r.counters ≡ (result_on pgns a p k).counters

-- with the counters lent: the answer, and the counters `after`, which were `before`
pub record ProcessesHeard (pgns : List ℕ) (a : Answer Heard) (p : Pool) (before : Counters) (r : Processed) (after : Counters) : Type 0 where
  pub answer : Answers (result_on pgns a p before) r.kind r.payload r.length r.pool
  pub counted : after ≡ (result_on pgns a p before).counters

-- the one answer that keeps the promise
unfoldable pub answer_to : List ℕ → Answer Heard → Pool → Counters → Received
answer_to pgns a p k =
    record {
      kind = reply_kind (result_on pgns a p k).reply;
      payload = reply_payload (result_on pgns a p k).reply;
      length = reply_length (result_on pgns a p k).reply;
      pool = (result_on pgns a p k).pool;
      counters = (result_on pgns a p k).counters;
    }

-- ---- the calls of the original's kind

-- `receive`, of an `Arrival`; each of these is what the generic call promises at its form (proofs/Forms)
abbrev pub Receives : List ℕ → Arrival → Pool → Counters → Received → Type 0
Receives pgns a p k r = ReceivesHeard pgns (at_original p (heard_of a)) p k r

-- of an `ArrivalWithLength`
abbrev pub ReceivesWithLength : List ℕ → ArrivalWithLength → Pool → Counters → Received → Type 0
ReceivesWithLength pgns x p k r = ReceivesHeard pgns (at_original p (heard_with_length x)) p k r

-- `process_frame`, of an `Arrival`
abbrev pub Processes : List ℕ → Arrival → Pool → Counters → Processed → Counters → Type 0
Processes pgns a p before r after = ProcessesHeard pgns (at_original p (heard_of a)) p before r after

-- of an `ArrivalWithLength`
abbrev pub ProcessesWithLength : List ℕ → ArrivalWithLength → Pool → Counters → Processed → Counters → Type 0
ProcessesWithLength pgns x p before r after = ProcessesHeard pgns (at_original p (heard_with_length x)) p before r after

-- ---- and of the kind with a destination

-- `receive`, of an `ArrivalById`
abbrev pub ReceivesById : List ℕ → ArrivalById → Pool → Counters → Received → Type 0
ReceivesById pgns a p k r = ReceivesHeard pgns (at_addressed p (heard_by_id a)) p k r

-- of an `ArrivalByIdWithLength`
abbrev pub ReceivesByIdWithLength : List ℕ → ArrivalByIdWithLength → Pool → Counters → Received → Type 0
ReceivesByIdWithLength pgns x p k r = ReceivesHeard pgns (at_addressed p (heard_by_id_with_length x)) p k r

-- `process_frame`, of an `ArrivalById`
abbrev pub ProcessesById : List ℕ → ArrivalById → Pool → Counters → Processed → Counters → Type 0
ProcessesById pgns a p before r after = ProcessesHeard pgns (at_addressed p (heard_by_id a)) p before r after

-- of an `ArrivalByIdWithLength`
abbrev pub ProcessesByIdWithLength : List ℕ → ArrivalByIdWithLength → Pool → Counters → Processed → Counters → Type 0
ProcessesByIdWithLength pgns x p before r after = ProcessesHeard pgns (at_addressed p (heard_by_id_with_length x)) p before r after
