-- The cases of the tests on rows, as the code meets them. Assumes nothing.
use Rattle.std.proofs.Common.{◌≡◌, ℕ, ◌+◌, ◌≤◌, Bool, true, false, ltb, sym, ◌∙◌, ltb-false}
use Rattle.std.specs.Prelude.{Ok, Err}
use Rattle.base.specs.Pick.{pick}
use Rattle.batch.specs.declared.BatchError.TheVariants.{ImpossiblePool, NoRoom}
use Rattle.batch.specs.inner.Ways.{refusal_of}

-- a message that has room fits
pub has_room : (room used n : ℕ) (b : Bool) → b ≡ ltb room (used + n) → b ≡ false → used + n ≤ room
has_room room used n b eb y = ltb-false room (used + n) (sym eb ∙ y)

-- the refusal, by what the code's two tests say
module _ (bad short b : Bool) (eb : b ≡ bad) where
  pub refused_bad : b ≡ true → Err ImpossiblePool ≡ refusal_of bad short
  unfolding refusal_of pick
  refused_bad y = rw (← eb, y)

  module _ (y : b ≡ false) (s : Bool) (es : s ≡ short) where
    pub refused_short : s ≡ true → Err NoRoom ≡ refusal_of bad short
    unfolding refusal_of pick
    refused_short z = rw (← eb, y, ← es, z)

    pub refused_none : s ≡ false → Ok tt ≡ refusal_of bad short
    unfolding refusal_of pick
    refused_none z = rw (← eb, y, ← es, z)
