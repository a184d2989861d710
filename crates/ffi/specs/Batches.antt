-- A batch of frames on a pool and counters of numbers, and what it leaves.
use Rattle.std.specs.Prelude.{ℕ, List, [], ◌∷◌, ◌≡◌}
use Rattle.base.specs.Answer.{code_of}
use Rattle.assembler.specs.declared.Pool.{Pool}
use Rattle.assembler.specs.Promises.{rules_of}
use Rattle.batch.specs.Rows.{Rows, BatchLeft, batch_of, taken_in}
use Rattle.numbers.specs.Pool.{laid_over, pool_from, counters_from, counter_numbers}

-- the memory that a caller lends; `counts` is how many frames were taken and how many bytes of the arena
pub record BatchMemory : Type 0 where
  pub heads : List ℕ
  pub bytes : List ℕ
  pub counters : List ℕ
  pub kinds : List ℕ
  pub lengths : List ℕ
  pub arena : List ℕ
  pub counts : List ℕ

-- what the batch leaves: what is returned, and that memory, from what it was before
pub record BatchMemoryLeft (l : BatchLeft) (before : BatchMemory) (code : ℕ) (after : BatchMemory) : Type 0 where
  pub told : code ≡ code_of l.answer
  pub kept : after.heads ≡ laid_over before.heads l.pool.heads
  pub stored : after.bytes ≡ l.pool.bytes
  pub counted : after.counters ≡ counter_numbers l.counters
  pub answered : after.kinds ≡ l.kinds
  pub measured : after.lengths ≡ l.lengths
  pub delivered : after.arena ≡ l.arena
  pub taken : after.counts ≡ taken_in l.answer ∷ l.used ∷ []

unfoldable pub batch_in : ℕ → ℕ → ℕ → List ℕ → Rows → BatchMemory → BatchLeft
batch_in size mode kind pgns rows before =
    let p : Pool = pool_from size mode kind before.heads before.bytes in
    batch_of (rules_of p) pgns rows p (counters_from before.counters) before.kinds before.lengths before.arena

-- `hf_raw_process_frames`
abbrev pub FramesLeft : ℕ → ℕ → ℕ → List ℕ → Rows → BatchMemory → ℕ → BatchMemory → Type 0
FramesLeft size mode kind pgns rows before code after = BatchMemoryLeft (batch_in size mode kind pgns rows before) before code after
