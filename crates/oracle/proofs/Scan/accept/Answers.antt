-- `accept` meets its contract: the message stays open, or is whole. Assumes nothing.
use Rattle.std.proofs.Common.{refl}
use Rattle.oracle.proofs.StrictLaws.{take_open, take_whole}
use Rattle.oracle.proofs.Scan.accept.Goals as goal

pub returns-then-room-count : goal.returns-then-room-count
returns-then-room-count c = take_open c.args.self c.args.bytes c.head-room.ensures.0 c.told-lacks.ensures c.from-count.ensures c.told.ensures c.if-room-count.true refl

pub returns : goal.returns
returns c = take_whole c.args.self c.args.bytes c.head-room.ensures.0 c.told-lacks.ensures c.from-count.ensures c.told.ensures c.if-room-count.false refl
