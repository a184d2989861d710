-- `scan_row` meets its contract: what the rest of the row comes to, from what is known at place i, is what the row came to at the start. Assumes nothing.
use Rattle.std.proofs.Common.{◌≡◌, drop}
use Rattle.oracle.specs.inner.Scan.{Counted, scan_of}
use Rattle.oracle.proofs.scan_row.Given as goal

abbrev pub invariant-loop-i : goal.invariant-loop-i
invariant-loop-i g l = Counted l.i l.scan × (scan_of l.scan (drop l.i (g.R.FrameRow.frames l.frames)) ≡ scan_of l.initial.scan (g.R.FrameRow.frames l.frames))
