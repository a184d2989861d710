-- `lay` meets its contract: after i turns the first i frames are laid. Assumes nothing.
use Rattle.std.proofs.Common.{rules}
use Rattle.splitter.proofs.SplitLaws.{row_turn}
use Rattle.splitter.proofs.lay.Goals as goal

pub loop-i-preserved : goal.loop-i-preserved
loop-i-preserved c = search (rules, row_turn)
