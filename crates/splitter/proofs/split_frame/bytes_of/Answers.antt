-- `bytes_of` meets its contract: what follows the header is the law of that index. Assumes nothing.
use Rattle.std.proofs.Common.{arith}
use Rattle.splitter.proofs.ByteLaws.{bytes_first, bytes_later}
use Rattle.splitter.proofs.split_frame.bytes_of.Goals as goal

pub returns-then-index-eq0 : goal.returns-then-index-eq0
returns-then-index-eq0 c = bytes_first c.args.sequence c.args.payload.now c.args.index c.if-index-eq0.true c.put.ensures

pub returns : goal.returns
returns c = bytes_later c.args.sequence c.args.payload.now c.args.index (omega arith) c.from.ensures c.put-2.ensures
