-- `processed` meets its contract: it passes on what its calls say. Assumes nothing.
use Rattle.ffi.proofs.Laws.{left_by, processed_by}
use Rattle.ffi.proofs.pools.processed.Goals as goal

pub returns : goal.returns
returns g c = left_by c.leave.ensures (processed_by _ _ _ _ _ c.pool_from-pool.ensures c.counters_from-after.ensures _ _ c.process_frame-answer.ensures)
