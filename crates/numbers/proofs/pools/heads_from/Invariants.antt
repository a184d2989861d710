-- `heads_from` meets its contract: k heads are read. Assumes nothing.
use mathlib.Core.Path.{◌≡◌}
use lib.ListN.{length, take}
use Rattle.session.specs.Rules.{pool_limit}
use Rattle.numbers.specs.Pool.{heads_to}
use Rattle.numbers.proofs.pools.heads_from.Given as goal

abbrev pub invariant-loop-k : goal.invariant-loop-k
invariant-loop-k l = (length l.heads ≡ pool_limit) × (take l.k l.heads ≡ heads_to l.k l.n)
