-- What making a pool and the receive calls leave, on a pool and counters of numbers.
use Rattle.std.specs.Prelude.{ℕ, List}
use Rattle.base.specs.Answer.{Answer, gives}
use Rattle.session.specs.declared.Mode.TheVariants.{AsOriginal}
use Rattle.session.specs.declared.PoolKind.TheVariants.{Original}
use Rattle.assembler.specs.Making.{fresh_pool, size_made, pool_made}
use Rattle.session.specs.declared.Heard.{Heard}
use Rattle.assembler.specs.declared.Pool.{Pool}
use Rattle.assembler.specs.declared.Received.{Received}
use Rattle.assembler.specs.Arrivals.{heard_of, heard_with_length, heard_by_id, heard_by_id_with_length}
use Rattle.assembler.specs.Promises.{at_original, at_addressed, answer_to}
use Rattle.assembler.specs.declared.Arrival.{Arrival}
use Rattle.assembler.specs.declared.ArrivalById.{ArrivalById}
use Rattle.assembler.specs.Arrivals.{ArrivalByIdWithLength}
use Rattle.assembler.specs.Arrivals.{ArrivalWithLength}
use Rattle.numbers.specs.Pool.{mode_from, pool_kind_from, size_under, pool_from, counters_from, CallMemory, CallLeft, PoolMemory, PoolLeft}

-- ---- a pool made
-- `hf_raw_pool_new`: as the original
abbrev pub NewPoolLeft : ℕ → PoolMemory → ℕ → PoolMemory → Type 0
NewPoolLeft wanted before code after = PoolLeft (size_made wanted) (pool_made Original AsOriginal (size_made wanted)) before code after

-- `hf_raw_pool_with_mode`: in the mode whose number is asked for; one that is no mode is refused as a size above the limit is
abbrev pub PoolWithModeLeft : ℕ → ℕ → PoolMemory → ℕ → PoolMemory → Type 0
PoolWithModeLeft wanted asked before code after =
    PoolLeft (size_made (size_under asked 0 wanted)) (pool_made Original (mode_from asked) (size_made (size_under asked 0 wanted))) before code after

-- `hf_raw_pool_with_kind`: of the kind whose number is asked for too; one that is no kind is refused so as well
abbrev pub PoolWithKindLeft : ℕ → ℕ → ℕ → PoolMemory → ℕ → PoolMemory → Type 0
PoolWithKindLeft wanted asked kind before code after =
    PoolLeft (size_made (size_under asked kind wanted)) (pool_made (pool_kind_from kind) (mode_from asked) (size_made (size_under asked kind wanted))) before code after

-- `hf_raw_pool_default`: "4 by default", never refused
abbrev pub DefaultPoolLeft : PoolMemory → ℕ → PoolMemory → Type 0
DefaultPoolLeft before code after = PoolLeft (gives 4) (fresh_pool 4) before code after

-- ---- the receive calls, on the pool and counters that the lent memory has
unfoldable pub pool_in : ℕ → ℕ → ℕ → CallMemory → Pool
pool_in size mode kind m = pool_from size mode kind m.heads m.bytes

-- what comes by the entry of a kind, answered there
unfoldable pub received_in : Pool → List ℕ → Answer Heard → CallMemory → Received
received_in p pgns a before = answer_to pgns a p (counters_from before.counters)

-- `hf_raw_process_frame` and `hf_raw_receive`
abbrev pub FrameLeft : ℕ → ℕ → ℕ → List ℕ → Arrival → CallMemory → ℕ → CallMemory → Type 0
FrameLeft size mode kind pgns a before code after =
    CallLeft (received_in (pool_in size mode kind before) pgns (at_original (pool_in size mode kind before) (heard_of a)) before) before code after

-- `hf_raw_process_frame_with_length`
abbrev pub FrameWithLengthLeft : ℕ → ℕ → ℕ → List ℕ → ArrivalWithLength → CallMemory → ℕ → CallMemory → Type 0
FrameWithLengthLeft size mode kind pgns x before code after =
    CallLeft (received_in (pool_in size mode kind before) pgns (at_original (pool_in size mode kind before) (heard_with_length x)) before) before code after

-- `hf_raw_process_frame_by_id` and `hf_raw_receive_by_id`
abbrev pub FrameByIdLeft : ℕ → ℕ → ℕ → List ℕ → ArrivalById → CallMemory → ℕ → CallMemory → Type 0
FrameByIdLeft size mode kind pgns a before code after =
    CallLeft (received_in (pool_in size mode kind before) pgns (at_addressed (pool_in size mode kind before) (heard_by_id a)) before) before code after

-- `hf_raw_process_frame_by_id_with_length`
abbrev pub FrameByIdWithLengthLeft : ℕ → ℕ → ℕ → List ℕ → ArrivalByIdWithLength → CallMemory → ℕ → CallMemory → Type 0
FrameByIdWithLengthLeft size mode kind pgns x before code after =
    CallLeft (received_in (pool_in size mode kind before) pgns (at_addressed (pool_in size mode kind before) (heard_by_id_with_length x)) before) before code after
