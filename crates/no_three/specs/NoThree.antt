-- Document 02, No. 11: "The translators of the crew screen ask when number 3 appears. No path gives it: prove that for every input of every public call".
-- A field has the name of the call that it is about. It says: whatever the call was asked, and whatever outcome its promise allows, the number by which the
-- answer is told is not 3. A public call that is added joins, as a field or, if it tells no answer by a number, in the list at the end; `host/test` looks.
use Rattle.std.specs.Prelude.{ℕ, ◌<◌, Bool, List, ◌≢◌, ◌≡◌, get_or, Result}
use Rattle.base.specs.Answer.{Answer, code_of}
use Rattle.can_id.specs.Read.{read_number, of_read, read_of}
use Rattle.can_id.specs.Build.{error_number, of_built, build_of}
use Rattle.can_id.specs.declared.CanIdBuilder.{CanIdBuilder}
use Rattle.can_id.specs.declared.CanId.{CanId}
use Rattle.can_id.specs.declared.CanIdBuildError.{CanIdBuildError}
use Rattle.can_id.specs.declared.CanIdParts.{CanIdParts}
use Rattle.can_id.specs.declared.CanIdReadError.{CanIdReadError}
use Rattle.builder.specs.Next.{of_answer, of_next, next_of}
use Rattle.builder.specs.Frames.{turn_of, next_turn}
use Rattle.builder.specs.declared.FastPacketBuilder.{FastPacketBuilder}
use Rattle.builder.specs.declared.FrameIterator.{FrameIterator}
use Rattle.builder.specs.declared.Next.{Next}
use Rattle.builder.specs.declared.Item.{Item}
use Rattle.session.specs.Rules.{silent_by}
use Rattle.session.specs.declared.Kind.{Kind}
use Rattle.session.specs.Kinds.{kind_number}
use Rattle.session.specs.inner.Plan.{plan_of}
use Rattle.session.specs.declared.Counters.{Counters}
use Rattle.session.specs.declared.Head.{Head}
use Rattle.session.specs.declared.Heard.{Heard}
use Rattle.session.specs.declared.Mode.{Mode}
use Rattle.session.specs.declared.PoolKind.{PoolKind}
use Rattle.session.specs.declared.Plan.{Plan}
use Rattle.assembler.specs.Making.{Made, of_made, MakesPoolOf, MakesPoolIn, MakesPool}
use Rattle.assembler.specs.View.{reply_by}
use Rattle.assembler.specs.Promises.{entered, ReceivesHeard, ProcessesHeard}
use Rattle.assembler.specs.declared.Pool.{Pool}
use Rattle.assembler.specs.declared.Arrival.{Arrival}
use Rattle.assembler.specs.declared.ArrivalById.{ArrivalById}
use Rattle.assembler.specs.Arrivals.{ArrivalByIdWithLength, of_heard}
use Rattle.assembler.specs.Arrivals.{ArrivalWithLength}
use Rattle.assembler.specs.declared.Received.{Received}
use Rattle.assembler.specs.declared.Processed.{Processed}
use Rattle.batch.specs.Rows.{Rows, of_batched, frames_in, Batches}
use Rattle.batch.specs.declared.Batch.{Batch}
use Rattle.splitter.specs.Split.{of_split, SplitsInto, SplitsIntoSlices}
use Rattle.splitter.specs.declared.Frame.{Frame}
use Rattle.splitter.specs.declared.SplitError.{SplitError}
use Rattle.oracle.specs.Numbers.{of_reassembled, of_checked}
use Rattle.oracle.specs.Strict.{Reassembles}
use Rattle.oracle.specs.Check.{ChecksTx}
use Rattle.oracle.specs.declared.ReassembleError.{ReassembleError}
use Rattle.oracle.specs.declared.CheckError.{CheckError}
use Rattle.numbers.specs.Numbers.{BuiltLeft, ReadLeft}
use Rattle.numbers.specs.Fives.{ToldInFive}
use Rattle.numbers.specs.Frames.{next_code, NextLeft}
use Rattle.numbers.specs.Pool.{CallMemory, CallLeft, PoolMemory, MadePoolLeft, MakesPoolAsked}
use Rattle.ffi.specs.Ids.{IdRead, PartsBuilt, SetBuilt, BothBuilt}
use Rattle.ffi.specs.Frames.{FrameMemory, NextFrameLeft, TurnLeft}
use Rattle.ffi.specs.Calls.{NewPoolLeft, PoolWithModeLeft, PoolWithKindLeft, DefaultPoolLeft, FrameLeft, FrameWithLengthLeft, FrameByIdLeft, FrameByIdWithLengthLeft}
use Rattle.ffi.specs.Batches.{BatchMemory, FramesLeft}
use Rattle.ffi.specs.BenchEntries.{ReassemblesInNumbers, SplitsInNumbers, ChecksTxInNumbers}

-- a number that a call tells is not 3
abbrev pub NotThree : ℕ → Type 0
NotThree n = n ≢ 3

-- nor is any of the first n entries of a row of kinds
abbrev pub NoneIsThree : ℕ → List ℕ → Type 0
NoneIsThree n kinds = (i : ℕ) → i < n → NotThree (get_or kinds i 0)

pub record NoThree : Type 0 where
  -- ---- identifiers and frames, by the number of the refusal
  pub can_id_read : (id : ℕ) (r : Result CanIdParts CanIdReadError) → of_read r ≡ read_of id → NotThree (code_of (of_read r))
  pub can_id_builder_build : (b : CanIdBuilder) (r : Result CanId CanIdBuildError) → of_built r ≡ build_of b → NotThree (code_of (of_built r))
  pub can_id_read_error_number : (e : CanIdReadError) (r : ℕ) → r ≡ read_number e → NotThree r
  pub can_id_build_error_number : (e : CanIdBuildError) (r : ℕ) → r ≡ error_number e → NotThree r
  pub arrive_heard : (a : Answer Heard) (r : Result Heard CanIdReadError) → of_heard r ≡ a → NotThree (code_of (of_heard r))
  pub fast_packet_builder_next_frame : (b : FastPacketBuilder) (index sent : ℕ) (payload : List ℕ) (r : Next)
      → of_next r ≡ next_of b index sent payload → NotThree (next_code (of_answer r.answer))
  pub frame_iterator_next : (t : FrameIterator) (payload : List ℕ) (r : Item) → turn_of r ≡ next_turn t payload → NotThree (next_code (of_answer r.answer))
  -- ---- pools and the receive call
  pub pool_new : (wanted : ℕ) (r : Made) → MakesPool wanted r → NotThree (code_of (of_made r))
  pub pool_with_mode : (mode : Mode) (wanted : ℕ) (r : Made) → MakesPoolIn mode wanted r → NotThree (code_of (of_made r))
  pub pool_with_kind : (kind : PoolKind) (mode : Mode) (wanted : ℕ) (r : Made) → MakesPoolOf kind mode wanted r → NotThree (code_of (of_made r))
  pub decide : (mode : Mode) (bad listed found : Bool) (h : Head) (heard : Heard) (r : Plan) → r ≡ plan_of bad listed found (silent_by mode) heard h → NotThree (kind_number r.kind)
  -- at every form of the call: by the entry of either kind, and whatever is heard there
  pub receive : (pgns : List ℕ) (entry : PoolKind) (a : Answer Heard) (p : Pool) (k : Counters) (r : Received)
      → ReceivesHeard pgns (entered entry p a) p k r → NotThree (code_of (reply_by r.kind r.payload r.length))
  pub process_frame : (pgns : List ℕ) (entry : PoolKind) (a : Answer Heard) (p : Pool) (before after : Counters) (r : Processed)
      → ProcessesHeard pgns (entered entry p a) p before r after → NotThree (code_of (reply_by r.kind r.payload r.length))
  -- the answer, and each kind that is written into the row
  pub process_frames : (list times pgns sources bytes kinds lengths arena : List ℕ) (p : Pool) (k : Counters) (r : Batch) (kinds' lengths' arena' : List ℕ)
      → Batches list times pgns sources bytes p k kinds lengths arena r kinds' lengths' arena'
      → NotThree (code_of (of_batched r.result)) × NoneIsThree (frames_in r.result) kinds'
  -- ---- the bench
  pub fast_packet_frames : (id sequence : ℕ) (payload : List ℕ) (row row' : List Frame) (r : Result ℕ SplitError)
      → SplitsInto id sequence payload row r row' → NotThree (code_of (of_split r))
  pub fast_packet_rows : (id sequence : ℕ) (payload ids bytes lens ids' bytes' lens' : List ℕ) (r : Result ℕ SplitError)
      → SplitsIntoSlices id sequence payload ids bytes lens r ids' bytes' lens' → NotThree (code_of (of_split r))
  pub reassemble : (frames : List Frame) (source pgn : ℕ) (list arena list' arena' : List ℕ) (r : Result ℕ ReassembleError)
      → Reassembles frames source pgn list arena r list' arena' → NotThree (code_of (of_reassembled r))
  pub reassemble_row : (frames : List Frame) (source pgn : ℕ) (list arena list' arena' : List ℕ) (r : Result ℕ ReassembleError)
      → Reassembles frames source pgn list arena r list' arena' → NotThree (code_of (of_reassembled r))
  pub check_tx_row : (frames : List Frame) (source expected hours : ℕ) (r : Result (Unit {0}) CheckError) → ChecksTx frames source expected hours r → NotThree (code_of (of_checked r))
  pub check_tx : (frames : List Frame) (source expected hours : ℕ) (r : Result (Unit {0}) CheckError) → ChecksTx frames source expected hours r → NotThree (code_of (of_checked r))
  -- ---- the entries, by what each returns
  pub hf_can_id_read : (id code : ℕ) (before after : List ℕ) → IdRead id before code after → NotThree code
  pub hf_can_id_build : (priority pgn source destination code value : ℕ) → PartsBuilt priority pgn source destination code value → NotThree code
  pub hf_can_id_build_with : (pgn source priority destination code value : ℕ) → SetBuilt pgn source priority destination code value → NotThree code
  pub hf_can_id_build_to : (pgn source priority destination code value : ℕ) → BothBuilt pgn source priority destination code value → NotThree code
  pub hf_raw_next_frame : (builder payload : List ℕ) (index sent code : ℕ) (after : FrameMemory) → NextFrameLeft builder index sent payload code after → NotThree code
  pub hf_raw_frame_iterator_next : (builder payload place : List ℕ) (code : ℕ) (after : FrameMemory) → TurnLeft builder payload place code after → NotThree code
  pub hf_raw_pool_new : (wanted code : ℕ) (before after : PoolMemory) → NewPoolLeft wanted before code after → NotThree code
  pub hf_raw_pool_with_mode : (wanted asked code : ℕ) (before after : PoolMemory) → PoolWithModeLeft wanted asked before code after → NotThree code
  pub hf_raw_pool_with_kind : (wanted asked kind code : ℕ) (before after : PoolMemory) → PoolWithKindLeft wanted asked kind before code after → NotThree code
  pub hf_raw_pool_default : (code : ℕ) (before after : PoolMemory) → DefaultPoolLeft before code after → NotThree code
  pub hf_raw_process_frame : (size mode kind code : ℕ) (pgns : List ℕ) (a : Arrival) (before after : CallMemory) → FrameLeft size mode kind pgns a before code after → NotThree code
  pub hf_raw_receive : (size mode kind code : ℕ) (pgns : List ℕ) (a : Arrival) (before after : CallMemory) → FrameLeft size mode kind pgns a before code after → NotThree code
  pub hf_raw_process_frame_with_length : (size mode kind code : ℕ) (pgns : List ℕ) (x : ArrivalWithLength) (before after : CallMemory)
      → FrameWithLengthLeft size mode kind pgns x before code after → NotThree code
  pub hf_raw_process_frame_by_id : (size mode kind code : ℕ) (pgns : List ℕ) (a : ArrivalById) (before after : CallMemory) → FrameByIdLeft size mode kind pgns a before code after → NotThree code
  pub hf_raw_receive_by_id : (size mode kind code : ℕ) (pgns : List ℕ) (a : ArrivalById) (before after : CallMemory) → FrameByIdLeft size mode kind pgns a before code after → NotThree code
  pub hf_raw_process_frame_by_id_with_length : (size mode kind code : ℕ) (pgns : List ℕ) (x : ArrivalByIdWithLength) (before after : CallMemory)
      → FrameByIdWithLengthLeft size mode kind pgns x before code after → NotThree code
  -- and each kind that is written into the row, of which the first of the counts says how many
  pub hf_raw_process_frames : (size mode kind code : ℕ) (pgns : List ℕ) (rows : Rows) (before after : BatchMemory)
      → FramesLeft size mode kind pgns rows before code after → NotThree code × NoneIsThree (get_or after.counts 0 0) after.kinds
  pub hf_reassemble : (ids bytes lens list arena list' arena' values : List ℕ) (source pgn code : ℕ)
      → ReassemblesInNumbers ids bytes lens source pgn list arena code list' arena' values → NotThree code
  pub hf_fast_packet_frames : (id sequence code frames : ℕ) (payload ids bytes lens ids' bytes' lens' : List ℕ)
      → SplitsInNumbers id sequence payload ids bytes lens code ids' bytes' lens' frames → NotThree code
  pub hf_check_tx : (ids bytes lens values : List ℕ) (source expected hours code : ℕ)
      → ChecksTxInNumbers ids bytes lens source expected hours code values → NotThree code
  -- ---- the functions below the entries that turn any answer into its number: a caller can write none that has number 3
  pub told_read : (r : Result CanIdParts CanIdReadError) (code : ℕ) (before after : List ℕ) → ReadLeft r before code after → NotThree code
  pub answered : (b : Result CanId CanIdBuildError) (code value : ℕ) → BuiltLeft b code value → NotThree code
  pub tell_next : (next : Next) (code : ℕ) (bytes numbers : List ℕ) → NextLeft next code bytes numbers → NotThree code
  pub told_reassembled : (r : Result ℕ ReassembleError) (code : ℕ) (values : List ℕ) → ToldInFive (of_reassembled r) code values → NotThree code
  pub split_number : (s : Result ℕ SplitError) (code : ℕ) → code ≡ code_of (of_split s) → NotThree code
  pub told_checked : (c : Result (Unit {0}) CheckError) (code : ℕ) (values : List ℕ) → ToldInFive (of_checked c) code values → NotThree code
  pub pool_asked : (wanted mode kind : ℕ) (r : Made) → MakesPoolAsked wanted mode kind r → NotThree (code_of (of_made r))
  pub leave : (r : Received) (before after : CallMemory) (code : ℕ) → CallLeft r before code after → NotThree code
  pub leave_made : (made : Made) (before after : PoolMemory) (code : ℕ) → MadePoolLeft made before code after → NotThree code
  pub kind_number : (kind : Kind) (n : ℕ) → n ≡ kind_number kind → NotThree n

-- No answer of these is told by a number, which is read off their types and not proved; a 3 that one of them gives is a priority, a count, an address or another
-- part of what was asked for:
-- `CanId::builder`, `CanIdBuilder::new`, `CanIdBuilder::with_priority`, `CanIdBuilder::to_destination`, `CanIdBuilder::priority`, `CanIdBuilder::destination`,
-- `is_listed`, `fill_short`, `FastPacketBuilder::new`, `FastPacketBuilder::with_sequence_id`, `FastPacketBuilder::with_priority`,
-- `FastPacketBuilder::to_destination`, `FastPacketBuilder::build`, `count`, `fresh_head`, `look`, `nothing_found`, `place_for`, `within_limit`, `Pool::default`,
-- `Pool::found`, `Pool::is_impossible`, `FrameRow::count`, `FrameRow::frame`,
-- `frame_count`; the entries `hf_fill_short`, `hf_raw_builder_new`, `hf_raw_builder_with_sequence_id`, `hf_raw_builder_with_priority`,
-- `hf_raw_builder_to_destination`, `hf_raw_builder_build`, `hf_frame_count`; and below them `split_count`, `builder_from`, `builder_numbers`, `lay_made`,
-- `after_numbers`, `iterator_from`, `place_numbers`, `go_on`, `destination_from`, `address_number`, `put_heads`, `pool_from`, `counters_from`,
-- `counter_numbers`.
