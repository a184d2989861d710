-- `odd_byte` meets its contract: what is left to look at has the same first odd byte. Assumes nothing.
use Rattle.std.proofs.Common.{◌≡◌, drop}
use Rattle.oracle.specs.Strict.{odd_of}
use Rattle.oracle.proofs.faults.odd_byte.Given as goal

abbrev pub invariant-loop-i : goal.invariant-loop-i
invariant-loop-i l = odd_of (drop l.i l.bytes) ≡ odd_of (drop l.from l.bytes)
