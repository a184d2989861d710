-- What the batch's answer leaves but for the rows. Nobody needs to believe this: only the code's own contracts cite it.
use Rattle.std.specs.Prelude.{ℕ, List, [], ◌∷◌, ◌≡◌}
use Rattle.base.specs.Answer.{code_of}
use Rattle.batch.specs.Rows.{of_batched, frames_in, bytes_in}
use Rattle.batch.specs.declared.Batch.{Batch}
use Rattle.numbers.specs.Pool.{laid_over, counter_numbers}

pub record PoolAfter (r : Batch) (old : List ℕ) (code : ℕ) (heads bytes counters counts : List ℕ) : Type 0 where
  pub told : code ≡ code_of (of_batched r.result)
  pub kept : heads ≡ laid_over old r.pool.heads
  pub stored : bytes ≡ r.pool.bytes
  pub counted : counters ≡ counter_numbers r.counters
  pub taken : counts ≡ frames_in r.result ∷ bytes_in r.result ∷ []
