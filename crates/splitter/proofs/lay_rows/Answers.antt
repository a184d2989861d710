-- `lay_rows` meets its contract: after i turns the first i frames are laid. Assumes nothing.
use Rattle.std.proofs.Common.{arith, refl, rules}
use Rattle.splitter.specs.Split.{ids_of, bytes_all, lens_of}
use Rattle.splitter.proofs.SplitLaws.{ids_turn, lens_turn, bytes_turn}
use Rattle.splitter.proofs.lay_rows.Goals as goal

pub loop-i-init : goal.loop-i-init
unfolding ids_of bytes_all lens_of
loop-i-init c = (refl, refl, refl)

pub loop-i-preserved : goal.loop-i-preserved
loop-i-preserved c = let f = c.frame_of-frame.ensures in let inv = c.loop-i.invariant in (
  ids_turn _ _ _ _ f _ _ inv.0,
  bytes_turn _ _ _ _ f _ _ _ (search rules) (omega arith) c.copy_from_slice.ensures.after (omega arith) inv.1,
  lens_turn _ _ _ _ f _ _ inv.2,
)
