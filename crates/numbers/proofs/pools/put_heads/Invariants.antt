-- `put_heads` meets its contract: k heads are laid. Assumes nothing.
use mathlib.Core.Path.{◌≡◌}
use Rattle.numbers.specs.Pool.{laid_to}
use Rattle.numbers.proofs.pools.put_heads.Given as goal

abbrev pub invariant-loop-k : goal.invariant-loop-k
invariant-loop-k l = l.n ≡ laid_to l.k l.initial.n l.heads
