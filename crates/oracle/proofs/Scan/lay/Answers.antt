-- `Scan::lay` meets its contract: as many bytes are laid as the total grows by, and the three numbers of a message that the frame makes whole. Assumes nothing.
use Rattle.std.proofs.Common.{arith, rules}
use Rattle.oracle.proofs.Grows.{lay_room, lay_added, row_none, row_laid}
use Rattle.oracle.proofs.Scan.lay.Goals as goal

pub overflow_add-from : goal.overflow_add-from
overflow_add-from c = omega (arith, (lay_room c.args.self c.args.frame c.step-after.ensures c.head-from.ensures.0 c.saturating_sub-count.ensures c.requires).0)

pub slice_bounds-put-end : goal.slice_bounds-put-end
slice_bounds-put-end c = omega (arith, (lay_room c.args.self c.args.frame c.step-after.ensures c.head-from.ensures.0 c.saturating_sub-count.ensures c.requires).0)

pub returns-then-self-after : goal.returns-then-self-after
returns-then-self-after c = (
  c.step-after.ensures,
  row_laid c.args.self c.args.frame c.step-after.ensures c.args.list.now c.if-self-after.true c.from.ensures c.from-length.ensures c.saturating_sub-start.ensures c.put-then-self-after.ensures,
  lay_added c.args.self c.args.frame c.args.arena.now (search rules) c.step-after.ensures c.head-from.ensures.0 c.saturating_sub-count.ensures c.put.ensures,
)

pub returns-else-self-after : goal.returns-else-self-after
returns-else-self-after c = (
  c.step-after.ensures,
  row_none c.args.self c.args.frame c.step-after.ensures c.args.list.now c.if-self-after.false,
  lay_added c.args.self c.args.frame c.args.arena.now (search rules) c.step-after.ensures c.head-from.ensures.0 c.saturating_sub-count.ensures c.put.ensures,
)
