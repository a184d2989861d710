-- The promise of each entry determines what it returns and what it lends out: two outcomes that satisfy it are equal. Assumes nothing.
use Prim.Native.Nat.{ℕ}
use mathlib.Core.List.{List}
use mathlib.Core.Path.{◌≡◌, ap, ◌∙◌}
use Rattle.base.specs.Answer.{Answer, counted}
use Rattle.base.proofs.Cases.{determined}
use Rattle.fast_packet.specs.FastPacket.{filled_from}
use Rattle.assembler.specs.declared.Arrival.{Arrival}
use Rattle.assembler.specs.declared.ArrivalById.{ArrivalById}
use Rattle.assembler.specs.Arrivals.{ArrivalByIdWithLength}
use Rattle.assembler.specs.Arrivals.{ArrivalWithLength}
use Rattle.batch.specs.Rows.{Rows}
use Rattle.oracle.specs.Rows.{row_in}
use Rattle.oracle.specs.Strict.{delivered_to}
use Rattle.oracle.specs.Check.{check_tx_of}
use Rattle.splitter.specs.Frames.{count_in}
use Rattle.numbers.specs.Fives.{ToldInFive}
use Rattle.numbers.specs.Numbers.{Answered}
use Rattle.numbers.specs.Pool.{CallMemory, PoolMemory}
use Rattle.numbers.proofs.Unique.{leave_unique, pool_left_unique}
use Rattle.ffi.specs.Ids.{IdRead, PartsBuilt, SetBuilt, BothBuilt}
use Rattle.ffi.specs.Frames.{NewBuilderLeft, sequence_set, priority_set, destination_set, started_place, FrameMemory, NextFrameLeft, TurnLeft}
use Rattle.ffi.specs.Calls.{NewPoolLeft, PoolWithModeLeft, PoolWithKindLeft, DefaultPoolLeft, FrameLeft, FrameWithLengthLeft, FrameByIdLeft, FrameByIdWithLengthLeft}
use Rattle.ffi.specs.Batches.{BatchMemory, FramesLeft}
use Rattle.ffi.specs.BenchEntries.{ReassemblesInNumbers, SplitsInNumbers, ChecksTxInNumbers}

-- a number returned, and memory lent out
both : {A B : Type 0} {x r s : A} {y v w : B} → (r ≡ x) × (v ≡ y) → (s ≡ x) × (w ≡ y) → (r ≡ s) × (v ≡ w)
both p q = (determined p.0 q.0, determined p.1 q.1)

-- ---- identifiers
-- a refusal's number or 0, and what the four parts become
pub hf_can_id_read_unique : (id : ℕ) (before : List ℕ) (r s : ℕ) (v w : List ℕ) → IdRead id before r v → IdRead id before s w → (r ≡ s) × (v ≡ w)
hf_can_id_read_unique id before r s v w p q = (determined p.told q.told, determined p.laid q.laid)

-- a refusal's number or 0, and what is given or carried
answers : {a : Answer ℕ} {r s v w : ℕ} → Answered a r v → Answered a s w → (r ≡ s) × (v ≡ w)
answers p q = (determined p.told q.told, determined p.given q.given)

module _ (pgn source priority destination r s v w : ℕ) where
  pub hf_can_id_build_unique : PartsBuilt priority pgn source destination r v → PartsBuilt priority pgn source destination s w → (r ≡ s) × (v ≡ w)
  hf_can_id_build_unique = answers

  pub hf_can_id_build_with_unique : SetBuilt pgn source priority destination r v → SetBuilt pgn source priority destination s w → (r ≡ s) × (v ≡ w)
  hf_can_id_build_with_unique = answers

  pub hf_can_id_build_to_unique : BothBuilt pgn source priority destination r v → BothBuilt pgn source priority destination s w → (r ≡ s) × (v ≡ w)
  hf_can_id_build_to_unique = answers

-- ---- frames
pub hf_raw_builder_new_unique : (pgn source destination : ℕ) (payload pgns : List ℕ) (held r s : ℕ) (v w : List ℕ)
    → NewBuilderLeft pgn source destination payload pgns held r v → NewBuilderLeft pgn source destination payload pgns held s w → (r ≡ s) × (v ≡ w)
hf_raw_builder_new_unique pgn source destination payload pgns held r s v w p q = (determined p.told q.told, determined p.made q.made)

module _ (builder v w : List ℕ) where
  pub hf_raw_builder_with_sequence_id_unique : (x : ℕ) → v ≡ sequence_set builder x → w ≡ sequence_set builder x → v ≡ w
  hf_raw_builder_with_sequence_id_unique x = determined

  pub hf_raw_builder_with_priority_unique : (x : ℕ) → v ≡ priority_set builder x → w ≡ priority_set builder x → v ≡ w
  hf_raw_builder_with_priority_unique x = determined

  pub hf_raw_builder_to_destination_unique : (x : ℕ) → v ≡ destination_set builder x → w ≡ destination_set builder x → v ≡ w
  hf_raw_builder_to_destination_unique x = determined

  pub hf_raw_builder_build_unique : v ≡ started_place builder → w ≡ started_place builder → v ≡ w
  hf_raw_builder_build_unique = determined

-- lent memory whose parts are equal is equal
frames_same : (a b : FrameMemory) → a.bytes ≡ b.bytes → a.numbers ≡ b.numbers → a.place ≡ b.place → a ≡ b
frames_same a b x y z =
    ap (λ (u : List ℕ). record { bytes = u; numbers = a.numbers; place = a.place }) x
    ∙ ap (λ (u : List ℕ). record { bytes = b.bytes; numbers = u; place = a.place }) y
    ∙ ap (λ (u : List ℕ). record { bytes = b.bytes; numbers = b.numbers; place = u }) z

pub hf_raw_next_frame_unique : (builder : List ℕ) (index sent : ℕ) (payload : List ℕ) (r s : ℕ) (a b : FrameMemory)
    → NextFrameLeft builder index sent payload r a → NextFrameLeft builder index sent payload s b → (r ≡ s) × (a ≡ b)
hf_raw_next_frame_unique builder index sent payload r s a b p q = (
  determined p.asked.told q.asked.told,
  frames_same a b (determined p.asked.filled q.asked.filled) (determined p.asked.named q.asked.named) (determined p.follows q.follows),
)

pub hf_raw_frame_iterator_next_unique : (builder payload place : List ℕ) (r s : ℕ) (a b : FrameMemory)
    → TurnLeft builder payload place r a → TurnLeft builder payload place s b → (r ≡ s) × (a ≡ b)
hf_raw_frame_iterator_next_unique builder payload place r s a b p q = (
  determined p.asked.told q.asked.told,
  frames_same a b (determined p.asked.filled q.asked.filled) (determined p.asked.named q.asked.named) (determined p.goes_on q.goes_on),
)

-- ---- a frame cut short
pub hf_fill_short_unique : (len : ℕ) (bytes r s : List ℕ) → r ≡ filled_from len bytes → s ≡ filled_from len bytes → r ≡ s
hf_fill_short_unique len bytes r s = determined

-- ---- the pool and the receive calls: what is returned, and all that was lent
pub hf_raw_pool_new_unique : (wanted : ℕ) (before : PoolMemory) (r s : ℕ) (a b : PoolMemory) → NewPoolLeft wanted before r a → NewPoolLeft wanted before s b → (r ≡ s) × (a ≡ b)
hf_raw_pool_new_unique wanted before r s a b = pool_left_unique _ _ before r s a b

pub hf_raw_pool_with_mode_unique : (wanted asked : ℕ) (before : PoolMemory) (r s : ℕ) (a b : PoolMemory)
    → PoolWithModeLeft wanted asked before r a → PoolWithModeLeft wanted asked before s b → (r ≡ s) × (a ≡ b)
hf_raw_pool_with_mode_unique wanted asked before r s a b = pool_left_unique _ _ before r s a b

pub hf_raw_pool_with_kind_unique : (wanted asked kind : ℕ) (before : PoolMemory) (r s : ℕ) (a b : PoolMemory)
    → PoolWithKindLeft wanted asked kind before r a → PoolWithKindLeft wanted asked kind before s b → (r ≡ s) × (a ≡ b)
hf_raw_pool_with_kind_unique wanted asked kind before r s a b = pool_left_unique _ _ before r s a b

pub hf_raw_pool_default_unique : (before : PoolMemory) (r s : ℕ) (a b : PoolMemory) → DefaultPoolLeft before r a → DefaultPoolLeft before s b → (r ≡ s) × (a ≡ b)
hf_raw_pool_default_unique before r s a b = pool_left_unique _ _ before r s a b

module _ (size mode kind : ℕ) (pgns : List ℕ) (before : CallMemory) (r s : ℕ) (a b : CallMemory) where
  -- of `hf_raw_receive` too
  pub hf_raw_process_frame_unique : (arrival : Arrival) → FrameLeft size mode kind pgns arrival before r a → FrameLeft size mode kind pgns arrival before s b → (r ≡ s) × (a ≡ b)
  hf_raw_process_frame_unique arrival = leave_unique _ before r s a b

  pub hf_raw_process_frame_with_length_unique : (x : ArrivalWithLength)
      → FrameWithLengthLeft size mode kind pgns x before r a → FrameWithLengthLeft size mode kind pgns x before s b → (r ≡ s) × (a ≡ b)
  hf_raw_process_frame_with_length_unique x = leave_unique _ before r s a b

  -- of `hf_raw_receive_by_id` too
  pub hf_raw_process_frame_by_id_unique : (arrival : ArrivalById) → FrameByIdLeft size mode kind pgns arrival before r a → FrameByIdLeft size mode kind pgns arrival before s b → (r ≡ s) × (a ≡ b)
  hf_raw_process_frame_by_id_unique arrival = leave_unique _ before r s a b

  pub hf_raw_process_frame_by_id_with_length_unique : (x : ArrivalByIdWithLength)
      → FrameByIdWithLengthLeft size mode kind pgns x before r a → FrameByIdWithLengthLeft size mode kind pgns x before s b → (r ≡ s) × (a ≡ b)
  hf_raw_process_frame_by_id_with_length_unique x = leave_unique _ before r s a b

batches_same : (a b : BatchMemory) → a.heads ≡ b.heads → a.bytes ≡ b.bytes → a.counters ≡ b.counters → a.kinds ≡ b.kinds → a.lengths ≡ b.lengths → a.arena ≡ b.arena → a.counts ≡ b.counts → a ≡ b
batches_same a b h y c k l r t =
    ap (λ (x : List ℕ). record { heads = x; bytes = a.bytes; counters = a.counters; kinds = a.kinds; lengths = a.lengths; arena = a.arena; counts = a.counts }) h
    ∙ ap (λ (x : List ℕ). record { heads = b.heads; bytes = x; counters = a.counters; kinds = a.kinds; lengths = a.lengths; arena = a.arena; counts = a.counts }) y
    ∙ ap (λ (x : List ℕ). record { heads = b.heads; bytes = b.bytes; counters = x; kinds = a.kinds; lengths = a.lengths; arena = a.arena; counts = a.counts }) c
    ∙ ap (λ (x : List ℕ). record { heads = b.heads; bytes = b.bytes; counters = b.counters; kinds = x; lengths = a.lengths; arena = a.arena; counts = a.counts }) k
    ∙ ap (λ (x : List ℕ). record { heads = b.heads; bytes = b.bytes; counters = b.counters; kinds = b.kinds; lengths = x; arena = a.arena; counts = a.counts }) l
    ∙ ap (λ (x : List ℕ). record { heads = b.heads; bytes = b.bytes; counters = b.counters; kinds = b.kinds; lengths = b.lengths; arena = x; counts = a.counts }) r
    ∙ ap (λ (x : List ℕ). record { heads = b.heads; bytes = b.bytes; counters = b.counters; kinds = b.kinds; lengths = b.lengths; arena = b.arena; counts = x }) t

pub hf_raw_process_frames_unique : (size mode kind : ℕ) (pgns : List ℕ) (rows : Rows) (before : BatchMemory) (r s : ℕ) (a b : BatchMemory)
    → FramesLeft size mode kind pgns rows before r a → FramesLeft size mode kind pgns rows before s b → (r ≡ s) × (a ≡ b)
hf_raw_process_frames_unique size mode kind pgns rows before r s a b p q = (
  determined p.told q.told,
  batches_same a b (determined p.kept q.kept) (determined p.stored q.stored) (determined p.counted q.counted) (determined p.answered q.answered) (determined p.measured q.measured) (determined p.delivered q.delivered) (determined p.taken q.taken),
)

-- ---- the bench
five_unique : (a : Answer ℕ) {r s : ℕ} {v w : List ℕ} → ToldInFive a r v → ToldInFive a s w → (r ≡ s) × (v ≡ w)
five_unique a p q = (determined p.told q.told, determined p.carried q.carried)

-- what is returned, the list, the arena and the five numbers
pub hf_reassemble_unique : (ids bytes lens : List ℕ) (source pgn : ℕ) (list arena : List ℕ) {a b : ℕ} {l m n o v x : List ℕ}
    → ReassemblesInNumbers ids bytes lens source pgn list arena a l n v → ReassemblesInNumbers ids bytes lens source pgn list arena b m o x
    → (a ≡ b) × (l ≡ m) × (n ≡ o) × (v ≡ x)
hf_reassemble_unique ids bytes lens source pgn list arena p q =
    let e = five_unique (counted (delivered_to list arena (row_in ids bytes lens) source pgn)) p.answer q.answer in
    (e.0, determined p.list_after q.list_after, determined p.arena_after q.arena_after, e.1)

-- what is returned, the three rows and the number of frames
pub hf_fast_packet_frames_unique : (id sequence : ℕ) (payload ids bytes lens : List ℕ) {a b : ℕ} {i j k l m n : List ℕ} {f g : ℕ}
    → SplitsInNumbers id sequence payload ids bytes lens a i k m f → SplitsInNumbers id sequence payload ids bytes lens b j l n g
    → (a ≡ b) × (i ≡ j) × (k ≡ l) × (m ≡ n) × (f ≡ g)
hf_fast_packet_frames_unique id sequence payload ids bytes lens p q =
    (determined p.told q.told, determined p.ids_after q.ids_after, determined p.bytes_after q.bytes_after, determined p.lens_after q.lens_after, determined p.given q.given)

pub hf_frame_count_unique : (ids bytes lens r s : ℕ) → r ≡ count_in ids bytes lens → s ≡ count_in ids bytes lens → r ≡ s
hf_frame_count_unique ids bytes lens r s = determined

-- what is returned and the five numbers
pub hf_check_tx_unique : (ids bytes lens : List ℕ) (source expected base : ℕ) {a b : ℕ} {v x : List ℕ}
    → ChecksTxInNumbers ids bytes lens source expected base a v → ChecksTxInNumbers ids bytes lens source expected base b x → (a ≡ b) × (v ≡ x)
hf_check_tx_unique ids bytes lens source expected base = five_unique (check_tx_of (row_in ids bytes lens) source expected base)
