-- `pool_from` meets its contract: it passes on what its calls say. Assumes nothing.
use Rattle.numbers.proofs.PoolLaws.{pool_by}
use Rattle.numbers.proofs.pools.pool_from.Goals as goal

pub returns : goal.returns
returns c = pool_by _ _ _ _ _ c.heads_from-h.ensures c.pool_kind_from.ensures c.mode_from.ensures c.size_under.ensures
