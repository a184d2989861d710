-- `leave_batch` meets its contract: each lent array as its call says. Assumes nothing.
use mathlib.Core.Path.{refl}
use Rattle.batch.specs.Rows.{of_batched}
use Rattle.ffi.proofs.batches.leave_batch.Goals as goal

pub returns-in-Ok : goal.returns-in-Ok
unfolding of_batched
returns-in-Ok c = record { told = rw c.in-Ok.is; kept = c.put_heads.ensures; stored = refl; counted = c.counter_numbers.ensures; taken = c.counts_of.ensures }
