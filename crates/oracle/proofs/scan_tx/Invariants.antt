-- `scan_tx` meets its contract: what the rest of the row comes to, from what is known at place i, is what the row came to at the start. Assumes nothing.
use Rattle.std.proofs.Common.{◌≡◌, drop}
use Rattle.oracle.specs.inner.Scan.{Counted}
use Rattle.oracle.specs.inner.Tx.{tx_all}
use Rattle.oracle.proofs.scan_tx.Given as goal

abbrev pub invariant-loop-i : goal.invariant-loop-i
invariant-loop-i g l = Counted l.i l.tx.scan × (tx_all l.tx (drop l.i (g.R.FrameRow.frames l.frames)) ≡ tx_all l.initial.tx (g.R.FrameRow.frames l.frames))
