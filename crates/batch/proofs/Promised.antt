-- The promise of `process_frames` and the equation that it stands for: each gives the other. Assumes nothing.
use Rattle.std.proofs.Common.{◌≡◌, ℕ, eqb, List, sym, refl, ap, ◌∙◌}
use Rattle.std.specs.Prelude.{Result, Ok, Err}
use Rattle.base.specs.Answer.{Answer, gives, refuses}
use Rattle.base.specs.Pick.{pick}
use Rattle.session.specs.declared.Counters.{Counters}
use Rattle.session.specs.Rules.{rules_by}
use Rattle.assembler.specs.declared.Pool.{Pool}
use Rattle.assembler.specs.Promises.{rules_of}
use Rattle.batch.specs.declared.Batch.{Batch}
use Rattle.batch.specs.declared.BatchError.{BatchError}
use Rattle.batch.specs.declared.BatchError.TheVariants.{ImpossiblePool, NoRoom}
use Rattle.batch.specs.declared.Taken.{Taken}
use Rattle.batch.specs.Rows.{BatchLeft, batch_of, of_batched, frames_in, bytes_in, taken_in, AreLeft, Batches}

-- an answer and lent rows as what a batch leaves
abbrev pub left_by : Batch → List ℕ → List ℕ → List ℕ → BatchLeft
left_by r kinds lengths arena = record { answer = of_batched r.result; used = bytes_in r.result; counters = r.counters; pool = r.pool; kinds = kinds; lengths = lengths; arena = arena }

-- ---- the case that 01's answer names

unfoldable pub case_of : Answer ℕ → ℕ → Result Taken BatchError
case_of (gives frames) bytes = Ok (record { frames = frames; bytes = bytes })
case_of (refuses n carried) bytes = pick (eqb n 1) (Err ImpossiblePool) (Err NoRoom)

case_back : (b : Result Taken BatchError) → case_of (of_batched b) (bytes_in b) ≡ b
unfolding case_of of_batched bytes_in pick
case_back (Ok taken) = refl
case_back (Err ImpossiblePool) = refl
case_back (Err NoRoom) = refl

frames_back : (b : Result Taken BatchError) → frames_in b ≡ taken_in (of_batched b)
unfolding frames_in of_batched taken_in
frames_back (Ok taken) = refl
frames_back (Err ImpossiblePool) = refl
frames_back (Err NoRoom) = refl

-- the answer that is read off what a batch leaves
unfoldable pub answer_from : BatchLeft → Batch
answer_from l = record { result = case_of l.answer l.used; counters = l.counters; pool = l.pool }

module _ {l : BatchLeft} {r : Batch} {kinds lengths arena : List ℕ} (h : AreLeft l r kinds lengths arena) where
  left_is : left_by r kinds lengths arena ≡ l
  left_is = rw (h.answer, h.used, h.counted, h.left, h.told, h.measured, h.delivered) refl

  pub answer_is : r ≡ answer_from l
  unfolding answer_from
  answer_is =
      let case : r.result ≡ case_of l.answer l.used = sym (case_back r.result) ∙ rw (h.answer, h.used) refl in
      rw (case, h.counted, h.left) refl

-- ---- the promise

module _ {list times pgns sources bytes : List ℕ} {p : Pool} {k : Counters} {kinds lengths arena : List ℕ} {r : Batch} {kinds' lengths' arena' : List ℕ} where
  promised : left_by r kinds' lengths' arena' ≡ batch_of (rules_by p.kind p.mode) list (record { times = times; pgns = pgns; sources = sources; bytes = bytes }) p k kinds lengths arena
      → Batches list times pgns sources bytes p k kinds lengths arena r kinds' lengths' arena'
  unfolding rules_of
  promised e =
      record {
        leaves_these =
            record {
              answer = ap (λ (x : BatchLeft). x.answer) e;
              taken = frames_back r.result ∙ ap (λ (x : BatchLeft). taken_in x.answer) e;
              used = ap (λ (x : BatchLeft). x.used) e;
              counted = ap (λ (x : BatchLeft). x.counters) e;
              left = ap (λ (x : BatchLeft). x.pool) e;
              told = ap (λ (x : BatchLeft). x.kinds) e;
              measured = ap (λ (x : BatchLeft). x.lengths) e;
              delivered = ap (λ (x : BatchLeft). x.arena) e;
            };
      }

  pub batched_by : Batches list times pgns sources bytes p k kinds lengths arena r kinds' lengths' arena'
      → left_by r kinds' lengths' arena' ≡ batch_of (rules_of p) list (record { times = times; pgns = pgns; sources = sources; bytes = bytes }) p k kinds lengths arena
  batched_by h = left_is h.leaves_these

module _ {list times pgns sources bytes : List ℕ} {p : Pool} {k : Counters} {kinds lengths arena : List ℕ} where
  -- of a batch that ran
  pub batched : {taken used : ℕ} {c : Counters} {q : Pool} {kinds' lengths' arena' : List ℕ}
      → record { answer = gives taken; used = used; counters = c; pool = q; kinds = kinds'; lengths = lengths'; arena = arena' }
      ≡ batch_of (rules_by p.kind p.mode) list (record { times = times; pgns = pgns; sources = sources; bytes = bytes }) p k kinds lengths arena
      → Batches list times pgns sources bytes p k kinds lengths arena (record { result = Ok (record { frames = taken; bytes = used }); counters = c; pool = q }) kinds' lengths' arena'
  unfolding of_batched bytes_in
  batched e = promised e

  -- and of one that was refused
  pub batch_refused : (e : BatchError)
      → record { answer = of_batched (Err e); used = 0; counters = k; pool = p; kinds = kinds; lengths = lengths; arena = arena }
      ≡ batch_of (rules_by p.kind p.mode) list (record { times = times; pgns = pgns; sources = sources; bytes = bytes }) p k kinds lengths arena
      → Batches list times pgns sources bytes p k kinds lengths arena (record { result = Err e; counters = k; pool = p }) kinds lengths arena
  unfolding bytes_in
  batch_refused e h = promised h
