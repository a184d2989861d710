-- `lay` meets its contract: after i turns the first i frames are laid. Assumes nothing.
use Rattle.std.proofs.Common.{◌≡◌}
use lib.Seq.{sets}
use Rattle.splitter.proofs.SplitLaws.{first_frames}
use Rattle.splitter.proofs.lay.Given as goal

abbrev pub invariant-loop-i : goal.invariant-loop-i
invariant-loop-i l = l.row ≡ sets l.initial.row 0 (first_frames l.id l.sequence l.payload l.i)
