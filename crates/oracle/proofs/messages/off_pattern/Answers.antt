-- `off_pattern` meets its contract: what is left to look at decides. Assumes nothing.
use Rattle.std.proofs.Common.{rules}
use Rattle.oracle.proofs.CheckLaws.{offness}
use Rattle.oracle.proofs.messages.off_pattern.Goals as goal

pub returns-then-bytes-k : goal.returns-then-bytes-k
returns-then-bytes-k c = search (rules, offness)

pub loop-k-preserved : goal.loop-k-preserved
loop-k-preserved c = search (rules, offness)

pub returns : goal.returns
returns c = search (rules, offness)
