-- `hf_raw_process_frame_with_length` meets its contract: what the frame without a length gives is cut. Assumes nothing.
use Rattle.ffi.proofs.Laws.{cut_left}
use Rattle.ffi.proofs.pools.hf_raw_process_frame_with_length.Goals as goal

pub returns : goal.returns
returns c = cut_left _ _ _ _ _ c.processed.ensures
