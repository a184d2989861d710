-- `walks::is_silent` meets its contract. Assumes nothing.
use Rattle.std.proofs.Common.{rules}
use Rattle.batch.proofs.WalkLaws.{silent_is}
use Rattle.batch.proofs.walks.is_silent.Goals as goal

pub returns : goal.returns
returns c = silent_is _ _ (search rules) (search rules) _ (search rules) _ _ c.heard_within.ensures
