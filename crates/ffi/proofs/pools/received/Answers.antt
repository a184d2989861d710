-- `received` meets its contract: it passes on what its calls say. Assumes nothing.
use Rattle.ffi.proofs.Laws.{left_by, entered_by}
use Rattle.ffi.proofs.pools.received.Goals as goal

pub returns : goal.returns
returns g c = left_by c.leave.ensures (entered_by _ _ _ _ _ c.pool_from-pool.ensures c.counters_from.ensures _ _ c.receive-r.ensures)
