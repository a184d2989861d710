-- `heads_from` meets its contract: k heads are read. Assumes nothing.
use mathlib.Core.Path.{refl}
use lib.ListN.{length-set}
use native.Mathlib.Omega.{arith}
use Rattle.numbers.specs.Pool.{heads_to}
use Rattle.numbers.proofs.PoolLaws.{read_turn, read_done}
use Rattle.numbers.proofs.pools.heads_from.Goals as goal

pub loop-k-init : goal.loop-k-init
unfolding heads_to
loop-k-init c = (refl, refl)

pub loop-k-preserved : goal.loop-k-preserved
loop-k-preserved c = let inv = c.loop-k.invariant in
    (simp length-set inv.0, read_turn _ _ _ _ inv.1 (omega (arith, inv.0, c.loop-k-test.true)) c.head_at.ensures)

pub returns : goal.returns
returns c = let inv = c.loop-k.invariant in
    read_done _ c.loop-k.k _ (omega (arith, c.loop-k-test.false, c.loop-k.auto.k-end)) inv.0 inv.1
