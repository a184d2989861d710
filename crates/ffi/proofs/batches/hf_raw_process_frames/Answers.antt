-- `hf_raw_process_frames` meets its contract: it passes on what its calls say. Assumes nothing.
use Rattle.ffi.proofs.Laws.{batch_left}
use Rattle.ffi.proofs.batches.hf_raw_process_frames.Goals as goal

pub returns : goal.returns
returns c = batch_left _ _ _ _ _ _ c.pool_from-p.ensures c.counters_from-c.ensures c.process_frames-r.ensures c.leave_batch.ensures
