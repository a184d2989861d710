-- `frame_fault` meets its contract: a fault of the header, or else of the padding. Assumes nothing.
use Rattle.std.proofs.Common.{rules}
use Rattle.base.proofs.Cases.{when_ne}
use Rattle.oracle.specs.inner.Frames.{fault_at}
use Rattle.oracle.proofs.FaultLaws.{fault_first, fault_later}
use Rattle.oracle.proofs.faults.frame_fault.Goals as goal

pub returns-then-len-ne-FRAME_BYTES : goal.returns-then-len-ne-FRAME_BYTES
unfolding fault_at
returns-then-len-ne-FRAME_BYTES c = search (rules, when_ne)

pub returns-then-bytes-eq0 : goal.returns-then-bytes-eq0
returns-then-bytes-eq0 c = search (rules, fault_first)

pub returns : goal.returns
returns c = search (rules, fault_later)
