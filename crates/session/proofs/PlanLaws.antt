-- The two ways of a listed frame: a frame without a byte goes with the first frames, as no good one. `plan_listed` finds its case. Assumes nothing.
use Prim.Native.Nat.{ℕ}
use mathlib.Core.Path.{◌≡◌, refl, ◌∙◌}
use mathlib.Core.Bool.{Bool, true, false, ◌||◌, false≢true}
use lib.Dec.{eqb}
use Rattle.base.proofs.Bools.{or_left, or_right}
use Rattle.session.specs.declared.Heard.{Heard}
use Rattle.session.specs.declared.Head.{Head}
use Rattle.session.specs.declared.Plan.{Plan}
use Rattle.session.specs.Frames.{index_of, is_empty}
use Rattle.session.proofs.Cuts.{empty_bad}
use Rattle.session.specs.inner.Plan.{Silent, plan_sized, plan_first, plan_next, plan_index, plan_sent, plan_listed}

module _ (S : Silent) (f : Heard) (h : Head) (found : Bool) where
  sent_first : (e z : Bool) → is_empty f ≡ e → eqb (index_of f) 0 ≡ z → (e || z) ≡ true → plan_first found S f h ≡ plan_sent e found S f h
  unfolding plan_first plan_sized plan_sent plan_index
  sent_first true z ee ez y = rw (empty_bad f ee)
  sent_first false true ee ez y = rw ez
  sent_first false false ee ez y = absurd (false≢true y)

  module _ (r : Plan) (i : ℕ) (ei : i ≡ index_of f) where
    pub listed_first : (eqb f.length 0 || eqb i 0) ≡ true → r ≡ plan_first found S f h → r ≡ plan_listed true found S f h
    unfolding plan_listed is_empty
    listed_first y er = er ∙ sent_first (is_empty f) (eqb (index_of f) 0) refl refl (rw (← ei) y)

    pub listed_next : (eqb f.length 0 || eqb i 0) ≡ false → r ≡ plan_next found f h → r ≡ plan_listed true found S f h
    unfolding plan_listed plan_sent is_empty plan_index
    listed_next y er = er ∙ rw (or_left (eqb f.length 0) (eqb i 0) y, ← ei, or_right (eqb f.length 0) (eqb i 0) y)
