-- `CanIdBuilder::build` meets its contract: the case that has a destination and an identifier, by its law; the others are found. Assumes nothing.
use Rattle.std.proofs.Common.{rules}
use Rattle.can_id.proofs.BuildLaws.{build_focused}
use Rattle.can_id.proofs.CanIdBuilder.build.Goals as goal

pub returns-in-Some-3 : goal.returns-in-Some-3
returns-in-Some-3 c = search (rules, build_focused)
