-- An answer told in five numbers is told so of what it equals. Assumes nothing.
use Prim.Native.Nat.{ℕ}
use mathlib.Core.List.{List}
use mathlib.Core.Path.{◌≡◌, subst}
use Rattle.base.specs.Answer.{Answer}
use Rattle.numbers.specs.Fives.{ToldInFive}
