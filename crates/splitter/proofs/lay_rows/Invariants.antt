-- `lay_rows` meets its contract: after i turns the first i frames are laid. Assumes nothing.
use Rattle.std.proofs.Common.{◌≡◌}
use lib.Seq.{sets}
use Rattle.splitter.specs.Split.{ids_of, bytes_all, lens_of}
use Rattle.splitter.proofs.SplitLaws.{first_frames}
use Rattle.splitter.proofs.lay_rows.Given as goal

abbrev pub invariant-loop-i : goal.invariant-loop-i
invariant-loop-i l = (l.ids ≡ sets l.initial.ids 0 (ids_of (first_frames l.id l.sequence l.payload l.i))) × (l.bytes ≡ sets l.initial.bytes 0 (bytes_all (first_frames l.id l.sequence l.payload l.i))) × (l.lens ≡ sets l.initial.lens 0 (lens_of (first_frames l.id l.sequence l.payload l.i)))
