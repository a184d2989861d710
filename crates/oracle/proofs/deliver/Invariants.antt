-- `deliver` meets its contract: what the rest of the row leaves of the list and the arena, from what is known at place i, is what the row leaves at the start. Assumes nothing.
use Rattle.std.proofs.Common.{◌≡◌, drop}
use Rattle.oracle.specs.inner.Scan.{Counted}
use Rattle.oracle.proofs.RowLaws.{arena_left, list_left}
use Rattle.oracle.proofs.deliver.Given as goal

abbrev pub invariant-loop-i : goal.invariant-loop-i
invariant-loop-i g l = Counted l.i l.scan × (list_left l.scan l.list (drop l.i (g.R.FrameRow.frames l.frames)) ≡ list_left l.initial.scan l.initial.list (g.R.FrameRow.frames l.frames)) × (arena_left l.scan l.arena (drop l.i (g.R.FrameRow.frames l.frames)) ≡ arena_left l.initial.scan l.initial.arena (g.R.FrameRow.frames l.frames))
