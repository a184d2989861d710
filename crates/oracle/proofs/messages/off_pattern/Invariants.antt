-- `off_pattern` meets its contract: what is left to look at decides. Assumes nothing.
use Rattle.std.proofs.Common.{◌≡◌, drop, take}
use Rattle.oracle.specs.Check.{off_from}
use Rattle.oracle.proofs.messages.off_pattern.Given as goal

abbrev pub invariant-loop-k : goal.invariant-loop-k
invariant-loop-k l = off_from l.k (drop l.k (take 26 l.bytes)) ≡ off_from 0 (take 26 l.bytes)
