-- How far the walks over the rows have come, and where they stop. Nobody needs to believe these definitions: only the code's own contracts cite them.
use Rattle.std.specs.Prelude.{◌≡◌, ℕ, ◌+◌, ◌-◌, ◌<◌, ◌≤◌, Bool, true, false, ◌||◌, List, ◌==◌, slice_index}
use Rattle.session.specs.declared.Mode.{Mode}
use Rattle.session.specs.declared.Mode.TheVariants.{AsOriginal, SetBackIsSilence}
use Rattle.batch.specs.declared.walks.Stop.{Stop}
use Rattle.batch.specs.declared.walks.Stop.TheVariants.{Keyed, Other, Nowhere}

-- the clock's last reading
abbrev pub clock_end : ℕ
clock_end = 18446744073709551615

-- how far the last times that are not silent reach, from 500 before now on: up to now where a clock set back is silence, else to the clock's end
unfoldable pub heard_within : Mode → ℕ → ℕ
heard_within AsOriginal time = clock_end - (time - 500)
heard_within SetBackIsSilence time = time - (time - 500)

unfoldable pub owner_at : List ℕ → ℕ → ℕ → Bool
owner_at owners source j = slice_index owners j == source

-- one of the four places from s on passes
unfoldable pub in_four : (ℕ → Bool) → ℕ → Bool
in_four t s = ((t s || t (s + 1)) || t (s + 2)) || t (s + 3)

-- a walk from place i on has come to place r, and none that it looked at passes
pub record Past (t : ℕ → Bool) (i r : ℕ) : Type 0 where
  pub low : i ≤ r
  pub fails : (j : ℕ) → i ≤ j → j < r → t j ≡ false

-- a walk from place i on stops at the first place that passes k or t, and says which
abbrev pub Stops : (ℕ → Bool) → (ℕ → Bool) → ℕ → ℕ → Stop → Type 0
Stops k t i n (Keyed s) = (s < n) × Past k i s × (k s ≡ true)
Stops k t i n (Other s) = (s < n) × Past k i (s + 1) × Past t i s × (t s ≡ true)
Stops k t i n Nowhere = Past k i n × Past t i n
