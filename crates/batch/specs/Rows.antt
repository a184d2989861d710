-- A batch: the rows of frames that a caller lends, taken one after the other by the single call, as long as the arena has room for their messages.
use Rattle.std.specs.Prelude.{◌≡◌, ℕ, zero, suc, ◌+◌, ◌*◌, Bool, not, ◌||◌, List, [], ◌∷◌, ◌++◌, length, take, drop, nat_lt, slice_index, Result, Ok, Err}
use Rattle.base.specs.Answer.{Answer, gives, refuses}
use Rattle.base.specs.Pick.{pick}
use Rattle.session.specs.declared.Heard.{Heard}
use Rattle.session.specs.declared.Counters.{Counters}
use Rattle.session.specs.declared.PoolKind.TheVariants.{Original}
use Rattle.session.specs.Kinds.{kind_number}
use Rattle.session.specs.Rules.{Rules}
use Rattle.assembler.specs.declared.Pool.{Pool}
use Rattle.assembler.specs.declared.Received.{Received}
use Rattle.assembler.specs.Slots.{impossible}
use Rattle.assembler.specs.View.{slots_of, receive_of}
use Rattle.assembler.specs.Promises.{rules_of, same_kind}
use Rattle.batch.specs.Lengths.{too_short}
use Rattle.batch.specs.declared.Batch.{Batch}
use Rattle.batch.specs.declared.BatchError.{BatchError}
use Rattle.batch.specs.declared.BatchError.TheVariants.{ImpossiblePool, NoRoom}
use Rattle.batch.specs.declared.Taken.{Taken}

-- ---- the frames

-- the lent rows: a time, a PGN, a source and eight bytes for each frame
pub record Rows : Type 0 where
  pub times : List ℕ
  pub pgns : List ℕ
  pub sources : List ℕ
  pub bytes : List ℕ

unfoldable pub frame_in_rows : Rows → ℕ → Heard
frame_in_rows w i = record { now_ms = slice_index w.times i; pgn = slice_index w.pgns i; source_address = slice_index w.sources i; part = 0; «data» = take 8 (drop (i * 8) w.bytes); length = 8 }

-- ---- the run

-- the pool and counters that the frames so far left, the kinds and lengths of their answers, and their messages end to end; the pool is looked at before the
-- first frame, so that no kind is a refusal
pub record Run : Type 0 where
  pub pool : Pool
  pub counters : Counters
  pub kinds : List ℕ
  pub lengths : List ℕ
  pub messages : List ℕ

unfoldable pub empty_run : Pool → Counters → Run
empty_run p k = record { pool = p; counters = k; kinds = []; lengths = []; messages = [] }

-- one answer more
unfoldable pub took : Run → Received → Run
took z a =
    record {
      pool = a.pool;
      counters = a.counters;
      kinds = z.kinds ++ (kind_number a.kind ∷ []);
      lengths = z.lengths ++ (a.length ∷ []);
      messages = z.messages ++ take a.length a.payload;
    }

-- what the single call answers to a frame, given the pool and counters so far
unfoldable pub answer_in : Rules → List ℕ → Run → Heard → Received
answer_in R pgns z f = receive_of R pgns f z.pool z.counters

-- at most n frames, the first of them frame i: it stops before the first whose message has no room
unfoldable pub run_from : Rules → List ℕ → Rows → ℕ → ℕ → ℕ → Run → Run
run_from R pgns w room zero i z = z
run_from R pgns w room (suc n) i z =
    pick (nat_lt room (length z.messages + (answer_in R pgns z (frame_in_rows w i)).length)) z
    (run_from R pgns w room n (suc i) (took z (answer_in R pgns z (frame_in_rows w i))))

unfoldable pub run_of : Rules → List ℕ → Rows → ℕ → Pool → Counters → Run
run_of R pgns w room p k = run_from R pgns w room (length w.times) 0 (empty_run p k)

-- ---- the answer, and what is left in the lent rows

pub record BatchLeft : Type 0 where
  -- how many frames were taken, or the refusal
  pub answer : Answer ℕ
  -- how many bytes of the arena their messages take
  pub used : ℕ
  pub counters : Counters
  pub pool : Pool
  pub kinds : List ℕ
  pub lengths : List ℕ
  pub arena : List ℕ

-- new entries at the start of a row; all else keeps its contents
unfoldable pub over : List ℕ → List ℕ → List ℕ
over row new = new ++ drop (length new) row

-- one entry of kinds and lengths for each frame taken, the messages from the arena's start
unfoldable pub leaves : Run → List ℕ → List ℕ → List ℕ → BatchLeft
leaves z kinds lengths arena =
    record {
      answer = gives (length z.kinds);
      used = length z.messages;
      counters = z.counters;
      pool = z.pool;
      kinds = over kinds z.kinds;
      lengths = over lengths z.lengths;
      arena = over arena z.messages;
    }

-- "None changes lent memory; the pool comes back unchanged with 1."
unfoldable pub refused_by : ℕ → Pool → Counters → List ℕ → List ℕ → List ℕ → BatchLeft
refused_by n p k kinds lengths arena =
    record { answer = refuses n []; used = 0; counters = k; pool = p; kinds = kinds; lengths = lengths; arena = arena }

-- refusal 1: document 02, No. 12, "a pool at the other kind's entry", since rows have no identifiers; or an impossible pool
unfoldable pub refuses_pool : Rules → Pool → Bool
refuses_pool R p = not (same_kind Original p.kind) || impossible R (slots_of p)

-- the call: refusal 1 by its pool, then 27 for a row too short, else the run
unfoldable pub batch_of : Rules → List ℕ → Rows → Pool → Counters → List ℕ → List ℕ → List ℕ → BatchLeft
batch_of R pgns w p k kinds lengths arena =
    pick (refuses_pool R p) (refused_by 1 p k kinds lengths arena)
    (pick (too_short (length w.times) (length w.pgns) (length w.sources) (length w.bytes) (length kinds) (length lengths)) (refused_by 27 p k kinds lengths arena)
    (leaves (run_of R pgns w (length arena) p k) kinds lengths arena))

-- 01's number of each case; what is given is how many frames were taken
unfoldable pub of_batched : Result Taken BatchError → Answer ℕ
of_batched (Ok taken) = gives taken.frames
of_batched (Err ImpossiblePool) = refuses 1 []
of_batched (Err NoRoom) = refuses 27 []

-- how many frames an answer says were taken, and how many bytes; none with a refusal
unfoldable pub frames_in : Result Taken BatchError → ℕ
frames_in (Ok taken) = taken.frames
frames_in (Err e) = 0

unfoldable pub bytes_in : Result Taken BatchError → ℕ
bytes_in (Ok taken) = taken.bytes
bytes_in (Err e) = 0

-- none with a refusal
unfoldable pub taken_in : Answer ℕ → ℕ
taken_in (gives taken) = taken
taken_in (refuses n carried) = 0

-- an answer and lent rows are what the batch leaves
pub record AreLeft (l : BatchLeft) (r : Batch) (kinds lengths arena : List ℕ) : Type 0 where
  pub answer : of_batched r.result ≡ l.answer
  pub taken : frames_in r.result ≡ taken_in l.answer
  pub used : bytes_in r.result ≡ l.used
  pub counted : r.counters ≡ l.counters
  pub left : r.pool ≡ l.pool
  pub told : kinds ≡ l.kinds
  pub measured : lengths ≡ l.lengths
  pub delivered : arena ≡ l.arena

-- what `process_frames` promises: its answer, and the lent rows of kinds and lengths and the arena after it, under the rules of the pool at hand
pub record Batches (list times pgns sources bytes : List ℕ) (p : Pool) (k : Counters) (kinds lengths arena : List ℕ) (r : Batch) (kinds' lengths' arena' : List ℕ) : Type 0 where
  pub leaves_these : AreLeft (batch_of (rules_of p) list (record { times = times; pgns = pgns; sources = sources; bytes = bytes }) p k kinds lengths arena) r kinds' lengths' arena'
