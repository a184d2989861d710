-- One walk that remembers its candidates finds what a walk for each of them would. Assumes nothing.
use mathlib.Core.Bool.{Bool, true, false}
use mathlib.Core.List.{List, [], ◌∷◌}
use mathlib.Core.Option.{Option, none, some}
use mathlib.Core.Path.{◌≡◌, refl, sym, ◌∙◌}
use Prim.Native.Nat.{ℕ, suc, ◌+◌}
use native.Mathlib.Nat.{zero-add, add-zero}
use native.Mathlib.Omega.{arith}
use Rattle.base.specs.Pick.{pick}
use Rattle.base.specs.Lists.{next_place, here, or_else, first_at}
use Rattle.base.specs.OneWalk.{remembered, never, walk_on, one_walk}

-- ---- a place that is counted from place i on

placed : ℕ → Option ℕ → Option ℕ
placed i none = none
placed i (some j) = some (i + j)

placed_none : (o : Option ℕ) → placed 0 o ≡ o
unfolding placed
placed_none none = refl
placed_none (some j) = rw (zero-add j)

placed_next : (i : ℕ) (o : Option ℕ) → placed (suc i) o ≡ placed i (next_place o)
unfolding placed next_place
placed_next i none = refl
placed_next i (some j) = let e : suc i + j ≡ i + suc j = omega arith in rw e

-- a candidate after one element more
placed_here : (c : Option ℕ) (b : Bool) (i : ℕ) (o : Option ℕ) → or_else (remembered c b i) (placed (suc i) o) ≡ or_else c (placed i (here b o))
unfolding or_else remembered here placed
placed_here (some j) b i o = refl
placed_here none true i o = rw (add-zero i)
placed_here none false i o = placed_next i o

or_none : (c : Option ℕ) → c ≡ or_else c none
unfolding or_else
or_none none = refl
or_none (some i) = refl

-- the walk after one element more, where w is the walk over the rest
one_turn : (own free : Option ℕ) (i : ℕ) (b c d : Bool) (kx ox vx w : Option ℕ)
    → w ≡ or_else (placed (suc i) kx) (or_else (or_else (remembered own c i) (placed (suc i) ox)) (or_else (remembered free d i) (placed (suc i) vx)))
    → pick b (some i) w ≡ or_else (placed i (here b kx)) (or_else (or_else own (placed i (here c ox))) (or_else free (placed i (here d vx))))
unfolding pick
one_turn own free i true c d kx ox vx w e = unfold here placed or_else in rw (add-zero i)
one_turn own free i false c d kx ox vx w e = unfold here in e ∙ rw (placed_here own c i ox, placed_here free d i vx, placed_next i kx)

module _ {A : Type 0} (k o v : A → Bool) where
  walk_three : (own free : Option ℕ) (i : ℕ) (l : List A) → walk_on k o v own free i l ≡ or_else (placed i (first_at k l)) (or_else (or_else own (placed i (first_at o l))) (or_else free (placed i (first_at v l))))
  unfolding walk_on first_at
  walk_three own free i [] = unfold placed in rw (← or_none own, ← or_none free) (unfold or_else in refl)
  walk_three own free i (x ∷ xs) =
      one_turn own free i (k x) (o x) (v x) (first_at k xs) (first_at o xs) (first_at v xs) (walk_on k o v (remembered own (o x) i) (remembered free (v x) i) (suc i) xs)
      (walk_three (remembered own (o x) i) (remembered free (v x) i) (suc i) xs)

  -- for every list and all three tests
  pub one_walk_is_three : (l : List A) → one_walk k o v l ≡ or_else (first_at k l) (or_else (first_at o l) (first_at v l))
  unfolding one_walk
  one_walk_is_three l =
      walk_three none none 0 l
      ∙ rw (placed_none (first_at k l), placed_none (first_at o l), placed_none (first_at v l)) (unfold or_else in refl)

never_first : {A : Type 0} (l : List A) → first_at never l ≡ none
unfolding first_at never here next_place
never_first [] = refl
never_first (x ∷ xs) = rw (never_first xs)

-- a walk for one thing alone
pub one_walk_alone : {A : Type 0} (k : A → Bool) (l : List A) → one_walk k never never l ≡ first_at k l
one_walk_alone k l = one_walk_is_three k never never l ∙ rw (never_first l, ← or_none none) (sym (or_none (first_at k l)))
