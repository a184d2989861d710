-- A run of mixed calls: `process_frame` hears the first frame of a message of twenty bytes, `receive` of an `ArrivalWithLength` its first continuation, `process_frames` its
-- second, and the batch delivers it in its arena. The run exists, and what it says is computed.
-- Assumes nothing.
use mathlib.Core.List.{List, [], ◌∷◌, ◌++◌}
use mathlib.Core.Path.{◌≡◌, refl, ◌∙◌}
use Prim.Native.Nat.{ℕ, zero, suc, ◌<◌}
use lib.ListN.{get_or, replicate}
use lib.Dec.{lit<}
use Rattle.base.specs.Answer.{gives}
use Rattle.base.specs.Lists.{fill}
use Rattle.fast_packet.specs.FastPacket.{filled_from}
use Rattle.session.specs.declared.Kind.TheVariants.{FragmentConsumed, MessageComplete}
use Rattle.session.specs.declared.PoolKind.TheVariants.{Original}
use Rattle.session.specs.Kinds.{kind_number}
use Rattle.assembler.specs.declared.Arrival.{Arrival}
use Rattle.assembler.specs.Arrivals.{ArrivalWithLength}
use Rattle.assembler.specs.declared.Received.{Received}
use Rattle.assembler.specs.Call.{Call}
use Rattle.assembler.specs.Step.{padded}
use Rattle.assembler.specs.Making.{fresh_pool}
use Rattle.assembler.specs.Arrivals.{heard_of, cut_to, heard_with_length}
use Rattle.assembler.specs.Promises.{rules_of, same_kind, entered, at_original, result_of, result_on, answer_to}
use Rattle.assembler.specs.inner.Forms.{processed_of}
use Rattle.assembler.proofs.Entries.{frame, known_entered}
use Rattle.assembler.proofs.Promised.{promised, process_promised}
use Rattle.batch.specs.declared.Batch.{Batch}
use Rattle.std.specs.Prelude.{Ok}
use Rattle.batch.specs.Rows as rows
use Rattle.batch.specs.Rows.{Rows, frame_in_rows, BatchLeft, batch_of, run_from, run_of, took, answer_in, over, leaves, refuses_pool, refused_by, Batches}
use Rattle.batch.specs.Lengths.{too_short}
use Rattle.batch.proofs.Promised.{batched}
use Rattle.ledger.specs.Ledger.{briefly}
use Rattle.ledger.specs.Runs.{State, start, calls_heard, said_to, after_entry, after_lent, calls_of, kind_of_number, said_in_rows, after_batch, received_with_length, processed, Ran, stop, on}
use Rattle.ledger.specs.Runs as run
use Rattle.ledger.proofs.EveryFate.{ran}

abbrev list : List ℕ
list = 127489 ∷ []

unfoldable pub arrives : ℕ → List ℕ → Arrival
arrives at bytes = record { now_ms = at; pgn = 127489; source_address = 35; «data» = bytes }

unfoldable pub first : Arrival
first = arrives 0 (0 ∷ 20 ∷ 1 ∷ 2 ∷ 3 ∷ 4 ∷ 5 ∷ 6 ∷ [])

-- of nine bytes sent, eight are kept
unfoldable pub second : ArrivalWithLength
second = record { arrival = arrives 1 (1 ∷ 7 ∷ 8 ∷ 9 ∷ 10 ∷ 11 ∷ 12 ∷ 13 ∷ []); length = 9 }

unfoldable pub third : Rows
third = record { times = 2 ∷ []; pgns = 127489 ∷ []; sources = 35 ∷ []; bytes = 2 ∷ 14 ∷ 15 ∷ 16 ∷ 17 ∷ 18 ∷ 19 ∷ 20 ∷ [] }

-- the state after each of the three
unfoldable pub after_first : State
after_first =
    let r : Received = answer_to list (at_original (fresh_pool 1) (heard_of first)) (fresh_pool 1) (start (fresh_pool 1)).counters in after_lent (at_original (fresh_pool 1) (heard_of first)) (start (fresh_pool 1)) (processed_of r) r.counters

unfoldable pub after_second : State
after_second = after_entry (at_original after_first.pool (heard_with_length second)) after_first (answer_to list (at_original after_first.pool (heard_with_length second)) after_first.pool after_first.counters)

-- to unfold `batch` is to unfold all that its line names
unfoldable pub batch : BatchLeft
unfolding ran rules_of after_second after_first first second third arrives heard_of heard_with_length cut_to filled_from fill entered same_kind answer_to result_on result_of said_to after_entry after_lent refuses_pool kind_number batch_of run_from run_of took answer_in over leaves refused_by too_short frame_in_rows rows.empty_run
batch = batch_of (rules_of after_second.pool) list third after_second.pool after_second.counters (0 ∷ []) (0 ∷ []) (replicate 20 0)

-- one frame was taken, and its message has 20 bytes
unfoldable pub answer : Batch
answer = record { result = Ok (record { frames = 1; bytes = 20 }); counters = batch.counters; pool = batch.pool }

unfoldable pub after_third : State
after_third = after_batch after_second answer batch.kinds batch.lengths batch.arena

unfoldable pub calls : List Call
calls =
    calls_heard list (at_original (fresh_pool 1) (heard_of first)) ++ (calls_heard list (at_original after_first.pool (heard_with_length second)) ++ (calls_of list third 1 0 ++ []))

-- every number of a row is a byte
record Bytes (l : List ℕ) : Type 0 where
  small : (i : ℕ) → get_or l i 0 < 256

none : Bytes []
none = record { small = λ i. lit< tt }

more : {b : ℕ} {l : List ℕ} → b < 256 → Bytes l → Bytes (b ∷ l)
more {b} {l} h k = record { small = go }
  where
    go : (i : ℕ) → get_or (b ∷ l) i 0 < 256
    go zero = h
    go (suc i) = k.small i

low : Bytes third.bytes
unfolding third
low = more (lit< tt) (more (lit< tt) (more (lit< tt) (more (lit< tt) (more (lit< tt) (more (lit< tt) (more (lit< tt) (more (lit< tt) none)))))))

left_by : (l : BatchLeft) (taken used : ℕ) → l.answer ≡ gives taken → l.used ≡ used
    → record { answer = gives taken; used = used; counters = l.counters; pool = l.pool; kinds = l.kinds; lengths = l.lengths; arena = l.arena } ≡ l
left_by l taken used ea eu = rw (← ea, ← eu) refl

one_taken : batch.answer ≡ gives 1
unfolding batch
one_taken = refl

twenty_used : batch.used ≡ 20
unfolding batch
twenty_used = refl

kept : Batches list third.times third.pgns third.sources third.bytes after_second.pool after_second.counters (0 ∷ []) (0 ∷ []) (replicate 20 0) answer batch.kinds batch.lengths batch.arena
unfolding answer rules_of
kept = batched (left_by batch 1 20 one_taken twenty_used ∙ is)
  where
    is : batch ≡ batch_of (rules_of after_second.pool) list (record { times = third.times; pgns = third.pgns; sources = third.sources; bytes = third.bytes }) after_second.pool after_second.counters (0 ∷ []) (0 ∷ []) (replicate 20 0)
    is = unfold batch in refl

pub mixed : Ran (start (fresh_pool 1)) calls after_third
unfolding calls after_third after_second after_first answer start third rows.frames_in
mixed =
    on (processed list first (unfold first arrives in record { eight = refl; byte = lit< tt }) (process_promised list (at_original (fresh_pool 1) (heard_of first)) (fresh_pool 1) _ (known_entered Original _ (frame _)) refl refl))
    (on (received_with_length list second (unfold second arrives in record { eight = refl; byte = lit< tt }) (promised list (at_original after_first.pool (heard_with_length second)) _ _ (known_entered Original _ (frame _)) refl))
    (on (run.batched low.small kept) stop))

pub mixed_says : after_third.said
    ≡ record { kind = MessageComplete; payload = padded (1 ∷ 2 ∷ 3 ∷ 4 ∷ 5 ∷ 6 ∷ 7 ∷ 8 ∷ 9 ∷ 10 ∷ 11 ∷ 12 ∷ 13 ∷ 14 ∷ 15 ∷ 16 ∷ 17 ∷ 18 ∷ 19 ∷ 20 ∷ []); length = 20 }
    ∷ briefly FragmentConsumed ∷ briefly FragmentConsumed ∷ []
unfolding batch answer after_third after_batch rows.frames_in said_in_rows kind_of_number briefly
mixed_says = refl
