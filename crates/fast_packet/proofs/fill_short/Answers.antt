-- `fill_short` meets its contract: after k turns the first k bytes are those of the filled frame. Assumes nothing.
use Rattle.std.proofs.Common.{rules}
use Rattle.fast_packet.proofs.Laws.{cutting}
use Rattle.fast_packet.proofs.fill_short.Goals as goal

pub loop-k-init : goal.loop-k-init
loop-k-init c = search (rules, cutting)

pub loop-k-preserved : goal.loop-k-preserved
loop-k-preserved c = search (rules, cutting)

pub returns : goal.returns
returns c = search (rules, cutting)
