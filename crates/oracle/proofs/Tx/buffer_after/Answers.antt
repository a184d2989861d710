-- `buffer_after` meets its contract: the frame's bytes are laid where the open message's end. Assumes nothing.
use Rattle.std.proofs.Common.{arith, rules}
use Rattle.oracle.proofs.Grows.{lay_room}
use Rattle.oracle.proofs.CheckLaws.{buffer_law}
use Rattle.oracle.proofs.Tx.buffer_after.Goals as goal

pub overflow_add-from : goal.overflow_add-from
overflow_add-from c = omega (arith, (lay_room c.args.self.scan c.args.frame c.requires.1 c.head-from.ensures.0 c.saturating_sub-count.ensures c.requires.0).0)

pub slice_bounds-put-end-2 : goal.slice_bounds-put-end-2
slice_bounds-put-end-2 c = omega (arith, (lay_room c.args.self.scan c.args.frame c.requires.1 c.head-from.ensures.0 c.saturating_sub-count.ensures c.requires.0).0)

pub returns : goal.returns
returns c = buffer_law c.args.self c.args.frame (search rules) c.requires.1 c.head-from.ensures.0 c.saturating_sub-count.ensures c.from.ensures c.from-2.ensures c.saturating_sub-end.ensures c.saturating_sub.ensures c.put.ensures
