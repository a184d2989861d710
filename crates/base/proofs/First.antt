-- The first place that passes a test: what the search's answer says, and how a loop comes to it. Assumes nothing.
use mathlib.Core.Bool.{Bool, true, false}
use mathlib.Core.List.{List, [], ◌∷◌}
use mathlib.Core.Option.{Option, none, some}
use mathlib.Core.Path.{◌≡◌, refl, ap, subst, ◌∙◌}
use Prim.Native.Nat.{ℕ, zero, suc, ◌<◌}
use native.Mathlib.Nat.{not-suc-le-zero, le_of_suc-le-suc}
use native.Mathlib.Omega.{arith}
use lib.ListN.{length, get_or, take}
use Rattle.base.specs.Lists.{next_place, here, or_else, first_at}

-- a test, with the equation that its answer gives
pub data Test (b : Bool) : Type 0 where
  passes : b ≡ true → Test b
  fails : b ≡ false → Test b

pub test : (b : Bool) → Test b
test true = passes refl
test false = fails refl

-- what a search finds, with its equation
pub data Hit (o : Option ℕ) : Type 0 where
  hits : (i : ℕ) → o ≡ some i → Hit o
  misses : o ≡ none → Hit o

pub hit : (o : Option ℕ) → Hit o
hit none = misses refl
hit (some i) = hits i refl

module _ {A : Type 0} where
  -- a place that the search finds is in the list, and its element passes
  pub record Passes (t : A → Bool) (l : List A) (i : ℕ) (d : A) : Type 0 where
    pub inside : i < length l
    pub passed : t (get_or l i d) ≡ true

  pub record Fails (t : A → Bool) (l : List A) (d : A) : Type 0 where
    pub failed : (i : ℕ) → i < length l → t (get_or l i d) ≡ false

  -- what a search's answer says: the place's element passes, or every element fails
  abbrev pub Says : (A → Bool) → List A → A → Option ℕ → Type 0
  Says t l d none = Fails t l d
  Says t l d (some i) = Passes t l i d

  fails_cons : (t : A → Bool) (x : A) (xs : List A) (d : A) → t x ≡ false → Fails t xs d → (i : ℕ) → i < length (x ∷ xs) → t (get_or (x ∷ xs) i d) ≡ false
  fails_cons t x xs d e r zero h = e
  fails_cons t x xs d e r (suc i) h = r.failed i (le_of_suc-le-suc h)

  says_here : (t : A → Bool) (x : A) (xs : List A) (d : A) (b : Bool) → t x ≡ b → (o : Option ℕ) → Says t xs d o → Says t (x ∷ xs) d (here b o)
  unfolding here next_place
  says_here t x xs d true e o r = record { inside = omega arith; passed = e }
  says_here t x xs d false e none r = record { failed = fails_cons t x xs d e r }
  says_here t x xs d false e (some j) r = record { inside = omega (arith, r.inside); passed = r.passed }

  pub says : (t : A → Bool) (l : List A) (d : A) → Says t l d (first_at t l)
  unfolding first_at
  says t [] d = record { failed = λ i h. absurd (not-suc-le-zero h) }
  says t (x ∷ xs) d = says_here t x xs d (t x) refl (first_at t xs) (says t xs d)

  pub first_passes : (t : A → Bool) (l : List A) (d : A) (i : ℕ) → first_at t l ≡ some i → Passes t l i d
  first_passes t l d i e = subst (Says t l d) e (says t l d)

  pub first_fails : (t : A → Bool) (l : List A) (d : A) → first_at t l ≡ none → Fails t l d
  first_fails t l d e = subst (Says t l d) e (says t l d)

-- ---- for the loops that search: one turn of a walk that remembers its candidate, and a walk that stops at the first that passes

unfoldable pub only : Bool → ℕ → Option ℕ
only true i = some i
only false i = none

or_next : (o : Option ℕ) (b : Bool) (i : ℕ) → next_place (or_else o (only b i)) ≡ or_else (next_place o) (only b (suc i))
unfolding next_place or_else only
or_next none true i = refl
or_next none false i = refl
or_next (some j) b i = refl

here_or : (a : Bool) (o : Option ℕ) (b : Bool) (i : ℕ) → here a (or_else o (only b i)) ≡ or_else (here a o) (only b (suc i))
unfolding here or_else
here_or true o b i = refl
here_or false o b i = or_next o b i

here_only : (b : Bool) → here b none ≡ or_else none (only b 0)
unfolding here or_else only next_place
here_only true = refl
here_only false = refl

module _ {A : Type 0} where
  -- the candidate after element i is the one before it, or else i if it passes
  pub first_turn : (t : A → Bool) (l : List A) (i : ℕ) (d : A) → i < length l → first_at t (take (suc i) l) ≡ or_else (first_at t (take i l)) (only (t (get_or l i d)) i)
  unfolding first_at
  first_turn t [] i d h = absurd (not-suc-le-zero h)
  first_turn t (x ∷ xs) zero d h = here_only (t x)
  first_turn t (x ∷ xs) (suc i) d h = ap (here (t x)) (first_turn t xs i d (le_of_suc-le-suc h)) ∙ here_or (t x) (first_at t (take i xs)) (t (get_or xs i d)) i

  -- every element before i fails, and i passes
  pub first_is : (t : A → Bool) (l : List A) (i : ℕ) (d : A) → i < length l → ((j : ℕ) → j < i → t (get_or l j d) ≡ false) → t (get_or l i d) ≡ true → first_at t l ≡ some i
  unfolding first_at here next_place
  first_is t [] i d h before e = absurd (not-suc-le-zero h)
  first_is t (x ∷ xs) zero d h before e = rw e
  first_is t (x ∷ xs) (suc i) d h before e =
      rw (before 0 (omega arith), first_is t xs i d (le_of_suc-le-suc h) (λ j l. before (suc j) (omega arith)) e)

  -- every element fails
  pub first_none : (t : A → Bool) (l : List A) (d : A) → ((j : ℕ) → j < length l → t (get_or l j d) ≡ false) → first_at t l ≡ none
  unfolding first_at here next_place
  first_none t [] d all = refl
  first_none t (x ∷ xs) d all = rw (all 0 (omega arith), first_none t xs d (λ j l. all (suc j) (omega arith)))

  -- every element before the place found fails
  abbrev Before : (A → Bool) → List A → A → Option ℕ → Type 0
  Before t l d none = Unit {0}
  Before t l d (some i) = (j : ℕ) → j < i → t (get_or l j d) ≡ false

  before_cons : (t : A → Bool) (x : A) (xs : List A) (d : A) → t x ≡ false → (k : ℕ) → Before t xs d (some k) → (j : ℕ) → j < suc k → t (get_or (x ∷ xs) j d) ≡ false
  before_cons t x xs d e k r zero h = e
  before_cons t x xs d e k r (suc j) h = r j (le_of_suc-le-suc h)

  before_here : (t : A → Bool) (x : A) (xs : List A) (d : A) (b : Bool) → t x ≡ b → (o : Option ℕ) → Before t xs d o → Before t (x ∷ xs) d (here b o)
  unfolding here next_place
  before_here t x xs d true e o r = λ j h. absurd (not-suc-le-zero h)
  before_here t x xs d false e none r = tt
  before_here t x xs d false e (some k) r = before_cons t x xs d e k r

  before : (t : A → Bool) (l : List A) (d : A) → Before t l d (first_at t l)
  unfolding first_at
  before t [] d = tt
  before t (x ∷ xs) d = before_here t x xs d (t x) refl (first_at t xs) (before t xs d)

  pub first_before : (t : A → Bool) (l : List A) (d : A) (i : ℕ) → first_at t l ≡ some i → (j : ℕ) → j < i → t (get_or l j d) ≡ false
  first_before t l d i e = subst (Before t l d) e (before t l d)
