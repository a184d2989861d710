-- `put_heads` meets its contract: k heads are laid. Assumes nothing.
use native.Mathlib.Omega.{arith}
use Rattle.session.specs.Heads.{fresh_head}
use Rattle.numbers.proofs.PoolLaws.{laid_none, laid_turn, laid_done}
use Rattle.numbers.proofs.pools.put_heads.Goals as goal

pub loop-k-init : goal.loop-k-init
loop-k-init c = laid_none _ _

pub loop-k-preserved : goal.loop-k-preserved
unfolding fresh_head
loop-k-preserved c = laid_turn _ _ _ c.loop-k.invariant c.put_head.ensures

pub returns : goal.returns
returns c = laid_done _ c.loop-k.k _ (omega (arith, c.loop-k-test.false, c.loop-k.auto.k-end)) c.loop-k.invariant
