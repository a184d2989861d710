-- `ListMemory::of` meets its contract: all places know what the list says of PGN 0. Assumes nothing.
use Rattle.std.proofs.Common.{ℕ, Bool, false}
use lib.ListN.{get_or-replicate}
use Rattle.batch.proofs.list_memory.ListMemory.of.Goals as goal

pub invariant_of-result : goal.invariant_of-result
invariant_of-result c = record { right = λ k h. rw (get_or-replicate {A = Bool} 64 k c.is_listed-zero.result false h, get_or-replicate {A = ℕ} 64 k 0 0 h) c.is_listed-zero.ensures }
