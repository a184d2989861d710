-- `fresh_heads` meets its contract: it passes on what its calls say. Assumes nothing.
use Rattle.numbers.specs.Pool.{blank_heads}
use Rattle.numbers.proofs.pools.fresh_heads.Goals as goal

pub returns : goal.returns
unfolding blank_heads
returns c = c.put_heads.ensures
