-- `put` meets its contract: after i turns the first i are laid. Assumes nothing.
use Rattle.std.proofs.Common.{◌≡◌, take}
use lib.Seq.{sets}
use Rattle.oracle.proofs.put.Given as goal

abbrev pub invariant-loop-i : goal.invariant-loop-i
invariant-loop-i g l = l.row ≡ sets l.initial.row l.at (take l.i l.values)
