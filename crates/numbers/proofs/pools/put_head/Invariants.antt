-- `put_head` meets its contract: after k turns k numbers are laid. Assumes nothing.
use mathlib.Core.Path.{◌≡◌}
use lib.ListN.{length, take}
use lib.Seq.{sets}
use Rattle.numbers.specs.Pool.{head_numbers}
use Rattle.numbers.proofs.pools.put_head.Given as goal

abbrev pub invariant-loop-k : goal.invariant-loop-k
invariant-loop-k l = (length l.numbers ≡ head_numbers) × (l.n ≡ sets l.initial.n l.at (take l.k l.numbers))
