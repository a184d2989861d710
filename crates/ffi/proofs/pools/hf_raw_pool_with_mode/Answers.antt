-- `hf_raw_pool_with_mode` meets its contract: it passes on what its calls say. Assumes nothing.
use borrow.Author.Rules.{rules}
use Rattle.base.specs.Pick.{pick}
use Rattle.numbers.specs.Pool.{pool_kind_from}
use Rattle.ffi.proofs.Laws.{made_by}
use Rattle.ffi.proofs.pools.hf_raw_pool_with_mode.Goals as goal

pub returns : goal.returns
unfolding pool_kind_from pick
returns c = made_by c.leave_made.ensures c.pool_asked.ensures.answer c.pool_asked.ensures.left
