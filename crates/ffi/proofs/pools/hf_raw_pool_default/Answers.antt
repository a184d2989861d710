-- `hf_raw_pool_default` meets its contract: it passes on what its calls say. Assumes nothing.
use Rattle.assembler.specs.Making.{made_pool}
use Rattle.ffi.proofs.Laws.{made_by, default_by}
use Rattle.ffi.proofs.pools.hf_raw_pool_default.Goals as goal

pub returns : goal.returns
unfolding made_pool
returns c = made_by c.leave_made.ensures (default_by c.default.ensures) c.default.ensures
