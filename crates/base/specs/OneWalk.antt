-- One walk over a list in place of three: it looks for an element that passes k, and remembers the first that passes o and the first that passes v.
use Rattle.std.specs.Prelude.{Bool, true, false, List, [], ◌∷◌, ℕ, suc}
use Rattle.std.proofs.Math.Option.{Option, none, some}
use Rattle.base.specs.Pick.{pick}
use Rattle.base.specs.Lists.{or_else}

-- a candidate that was found stays; else it is place i, where the test of its element passes
unfoldable pub remembered : Option ℕ → Bool → ℕ → Option ℕ
remembered (some j) b i = some j
remembered none true i = some i
remembered none false i = none

-- a test that no element passes
unfoldable pub never : {A : Type 0} → A → Bool
never x = false

module _ {A : Type 0} (k o v : A → Bool) where
  -- from place i on, with the candidates so far: an element that passes k ends the walk, and at its end the one for o comes before the one for v
  unfoldable pub walk_on : Option ℕ → Option ℕ → ℕ → List A → Option ℕ
  walk_on own free i [] = or_else own free
  walk_on own free i (x ∷ xs) = pick (k x) (some i) (walk_on (remembered own (o x) i) (remembered free (v x) i) (suc i) xs)

  unfoldable pub one_walk : List A → Option ℕ
  one_walk l = walk_on none none 0 l
