-- `FastPacketBuilder::next_frame` meets its contract: a refused identifier by its law; the other cases are found. Assumes nothing.
use Rattle.std.proofs.Common.{rules, arith}
use Rattle.builder.proofs.NextLaws.{next_refused}
use Rattle.builder.proofs.FastPacketBuilder.next_frame.Goals as goal

pub returns-in-Err : goal.returns-in-Err
returns-in-Err c = next_refused _ _ _ _ (omega arith) _ c.identifier.ensures _ c.in-Err.is (search rules)
