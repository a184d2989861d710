-- Runs of the public calls, mixed in any order, each given the pool and counters that the last one left; and what is seen after them.
use Rattle.std.specs.Prelude.{List, [], ◌∷◌, ◌++◌, map, ◌≡◌, ℕ, zero, suc, ◌≤◌, ◌<◌, length, get_or, take, drop, eqb}
use Rattle.base.specs.Answer.{Answer, gives, refuses}
use Rattle.base.specs.Pick.{pick}
use Rattle.session.specs.declared.Head.{Head}
use Rattle.session.specs.declared.Heard.{Heard}
use Rattle.session.specs.declared.Counters.{Counters}
use Rattle.session.specs.declared.Kind.{Kind}
use Rattle.session.specs.declared.Kind.TheVariants.{ImpossiblePool, TooWide, NotListed, Rejected, PoolFull, Lost, FragmentConsumed, MessageComplete}
use Rattle.session.specs.Rules.{pool_limit}
use Rattle.session.specs.Counting.{fresh_counters}
use Rattle.assembler.specs.declared.Pool.{Pool}
use Rattle.assembler.specs.declared.Arrival.{Arrival}
use Rattle.assembler.specs.declared.ArrivalById.{ArrivalById}
use Rattle.assembler.specs.Arrivals.{ArrivalByIdWithLength}
use Rattle.assembler.specs.Arrivals.{ArrivalWithLength}
use Rattle.assembler.specs.declared.Received.{Received}
use Rattle.assembler.specs.declared.Processed.{Processed}
use Rattle.assembler.specs.Call.{Call, EightBytes}
use Rattle.assembler.specs.Step.{padded}
use Rattle.assembler.specs.Making.{pool_bytes}
use Rattle.assembler.specs.Arrivals.{heard_of, heard_with_length, heard_by_id, heard_by_id_with_length}
use Rattle.assembler.specs.Promises.{at_original, at_addressed, Receives, ReceivesWithLength, ReceivesById, ReceivesByIdWithLength, Processes, ProcessesWithLength, ProcessesById, ProcessesByIdWithLength}
use Rattle.batch.specs.declared.Batch.{Batch}
use Rattle.batch.specs.Rows.{Rows, frame_in_rows, frames_in, Batches}
use Rattle.ledger.specs.Ledger.{Saying}
use Rattle.ledger.specs.Demand3.{Seen, heads_in_progress}

-- ---- where a run starts: an empty pool and counters at 0

-- "From an empty pool": of a size within the limit, with no slot in progress within it, and laid out as its type says; the slots keep any source, time and bytes
pub record Empty (p : Pool) : Type 0 where
  pub size : p.size ≤ pool_limit
  pub idle : heads_in_progress (take p.size p.heads) ≡ 0
  pub heads : length p.heads ≡ pool_limit
  pub bytes : length p.bytes ≡ pool_bytes

unfoldable pub kept_source : Head → ℕ
kept_source h = h.source_address

-- the sources that its slots keep
unfoldable pub sources_of : Pool → List ℕ
sources_of p = map kept_source (take p.size p.heads)

-- what the caller has between two calls, and all that was said to it, the latest first
pub record State : Type 0 where
  pub pool : Pool
  pub counters : Counters
  pub said : List Saying

unfoldable pub start : Pool → State
start p = record { pool = p; counters = fresh_counters; said = [] }

unfoldable pub seen_in : State → Seen
seen_in z = record { said = z.said; heads = take z.pool.size z.pool.heads; counters = z.counters }

-- ---- one call

abbrev pub call : List ℕ → Heard → Call
call pgns f = record { pgns = pgns; heard = f }

unfoldable pub saying_of : Received → Saying
saying_of r = record { kind = r.kind; payload = r.payload; length = r.length }

unfoldable pub after_call : State → Received → State
after_call z r = record { pool = r.pool; counters = r.counters; said = saying_of r ∷ z.said }

-- document 02, No. 12: "a call that gets 8, or 1 at the other kind's entry, counts there as no frame": what comes by an entry as calls, and what is said to it
unfoldable pub calls_heard : List ℕ → Answer Heard → List Call
calls_heard pgns (gives f) = call pgns f ∷ []
calls_heard pgns (refuses n carried) = []

unfoldable pub said_to : Answer Heard → Saying → List Saying → List Saying
said_to (gives f) s older = s ∷ older
said_to (refuses n carried) s older = older

unfoldable pub after_entry : Answer Heard → State → Received → State
after_entry a z r = record { pool = r.pool; counters = r.counters; said = said_to a (saying_of r) z.said }

-- with the counters lent
unfoldable pub after_lent : Answer Heard → State → Processed → Counters → State
after_lent a z r after = record { pool = r.pool; counters = after; said = said_to a (record { kind = r.kind; payload = r.payload; length = r.length }) z.said }

-- the frames that a batch took as calls with this list: n of them, the first of them frame i of the rows
unfoldable pub calls_of : List ℕ → Rows → ℕ → ℕ → List Call
calls_of list w zero i = []
calls_of list w (suc n) i = call list (frame_in_rows w i) ∷ calls_of list w n (suc i)

-- the kind of answer that has this number; a batch writes the first six and no other (`missed`, `Kind::number` of what `process_frames` writes), so that no refusal is read off a row
unfoldable pub kind_of_number : ℕ → Kind
kind_of_number n =
    pick (eqb n 102) FragmentConsumed
    (pick (eqb n 103) MessageComplete
    (pick (eqb n 104) NotListed
    (pick (eqb n 105) Rejected
    (pick (eqb n 106) PoolFull
    (pick (eqb n 107) Lost
    (pick (eqb n 8) TooWide ImpossiblePool))))))

-- what a batch says of n frames in its rows, after what was said before: of each a kind and a length, and the messages end to end in the arena
unfoldable pub said_in_rows : ℕ → List ℕ → List ℕ → List ℕ → List Saying → List Saying
said_in_rows zero kinds lengths arena older = older
said_in_rows (suc n) kinds lengths arena older =
    said_in_rows n (drop 1 kinds) (drop 1 lengths) (drop (get_or lengths 0 0) arena)
    (record { kind = kind_of_number (get_or kinds 0 0); payload = padded (take (get_or lengths 0 0) arena); length = get_or lengths 0 0 } ∷ older)

unfoldable pub after_batch : State → Batch → List ℕ → List ℕ → List ℕ → State
after_batch z r kinds lengths arena = record { pool = r.pool; counters = r.counters; said = said_in_rows (frames_in r.result) kinds lengths arena z.said }

-- A public call that keeps its promise: the frames that it heard, and the state that it leaves. Where its bytes come from outside, they are what their type says.
pub data Called (z : State) : List Call → State → Type 0 where
  -- `receive`, of an `Arrival`
  received : (pgns : List ℕ) (a : Arrival) {r : Received} → EightBytes a.«data» → Receives pgns a z.pool z.counters r
      → Called z (calls_heard pgns (at_original z.pool (heard_of a))) (after_entry (at_original z.pool (heard_of a)) z r)
  -- `receive`, of an `ArrivalWithLength`
  received_with_length : (pgns : List ℕ) (x : ArrivalWithLength) {r : Received} → EightBytes x.arrival.«data» → ReceivesWithLength pgns x z.pool z.counters r
      → Called z (calls_heard pgns (at_original z.pool (heard_with_length x))) (after_entry (at_original z.pool (heard_with_length x)) z r)
  -- `process_frame`, of an `Arrival` and of an `ArrivalWithLength`
  processed : (pgns : List ℕ) (a : Arrival) {r : Processed} {after : Counters} → EightBytes a.«data» → Processes pgns a z.pool z.counters r after
      → Called z (calls_heard pgns (at_original z.pool (heard_of a))) (after_lent (at_original z.pool (heard_of a)) z r after)
  processed_with_length : (pgns : List ℕ) (x : ArrivalWithLength) {r : Processed} {after : Counters} → EightBytes x.arrival.«data» → ProcessesWithLength pgns x z.pool z.counters r after
      → Called z (calls_heard pgns (at_original z.pool (heard_with_length x))) (after_lent (at_original z.pool (heard_with_length x)) z r after)
  -- `receive`, of an `ArrivalById`
  received_by_id : (pgns : List ℕ) (a : ArrivalById) {r : Received} → EightBytes a.«data» → ReceivesById pgns a z.pool z.counters r
      → Called z (calls_heard pgns (at_addressed z.pool (heard_by_id a))) (after_entry (at_addressed z.pool (heard_by_id a)) z r)
  -- `receive`, of an `ArrivalByIdWithLength`
  received_by_id_with_length : (pgns : List ℕ) (x : ArrivalByIdWithLength) {r : Received} → EightBytes x.arrival.«data» → ReceivesByIdWithLength pgns x z.pool z.counters r
      → Called z (calls_heard pgns (at_addressed z.pool (heard_by_id_with_length x))) (after_entry (at_addressed z.pool (heard_by_id_with_length x)) z r)
  -- `process_frame`, of an `ArrivalById` and of an `ArrivalByIdWithLength`
  processed_by_id : (pgns : List ℕ) (a : ArrivalById) {r : Processed} {after : Counters} → EightBytes a.«data» → ProcessesById pgns a z.pool z.counters r after
      → Called z (calls_heard pgns (at_addressed z.pool (heard_by_id a))) (after_lent (at_addressed z.pool (heard_by_id a)) z r after)
  processed_by_id_with_length : (pgns : List ℕ) (x : ArrivalByIdWithLength) {r : Processed} {after : Counters} → EightBytes x.arrival.«data» → ProcessesByIdWithLength pgns x z.pool z.counters r after
      → Called z (calls_heard pgns (at_addressed z.pool (heard_by_id_with_length x))) (after_lent (at_addressed z.pool (heard_by_id_with_length x)) z r after)
  -- `process_frames`, also where it is refused and takes no frame
  batched : {list times pgns sources bytes kinds lengths arena : List ℕ} {r : Batch} {kinds' lengths' arena' : List ℕ} → ((i : ℕ) → get_or bytes i 0 < 256)
      → Batches list times pgns sources bytes z.pool z.counters kinds lengths arena r kinds' lengths' arena'
      → Called z (calls_of list (record { times = times; pgns = pgns; sources = sources; bytes = bytes }) (frames_in r.result) 0) (after_batch z r kinds' lengths' arena')

-- ---- a run: the frames that its calls heard, from one state to another

pub data Ran : State → List Call → State → Type 0 where
  stop : {z : State} → Ran z [] z
  on : {z x y : State} {cs ds : List Call} → Called z cs x → Ran x ds y → Ran z (cs ++ ds) y
