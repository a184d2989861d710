-- `fresh_pool` meets its contract. Assumes nothing.
use Rattle.assembler.specs.Making.{fresh_pool_in}
use Rattle.assembler.proofs.making.fresh_pool.Goals as goal

pub returns : goal.returns
unfolding fresh_pool_in
returns c = rw c.fresh_head.ensures
