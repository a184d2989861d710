-- A goal by a test of two numbers; what holds of both values of a `pick`; why a promise determines its answer; a definition's case by the code's test.
-- Assumes nothing.
use Prim.Native.Nat.{ℕ, ◌<◌, ◌≤◌}
use mathlib.Core.Bool.{Bool, true, false}
use mathlib.Core.Path.{◌≡◌, refl, sym, ap, ◌∙◌}
use lib.Dec.{ltb, leb, eqb}
use borrow.Author.Tests.{ltb-true, ltb-false, eqb-true, eqb-false, lt-ltb, le-ltb, le-leb, lt-leb, eq-eqb, ne_eqb}
use Rattle.base.specs.Pick.{pick}

pub tested : {G : Type 0} (t : Bool) → (t ≡ true → G) → (t ≡ false → G) → G
tested true f g = f refl
tested false f g = g refl

pub less? : {G : Type 0} (a b : ℕ) → (a < b → G) → (b ≤ a → G) → G
less? a b f g = tested (ltb a b) (λ e. f (ltb-true a b e)) (λ e. g (ltb-false a b e))

pub same? : {G : Type 0} (a b : ℕ) → (a ≡ b → G) → ((a ≡ b → ⊥) → G) → G
same? a b f g = tested (eqb a b) (λ e. f (eqb-true a b e)) (λ e. g (eqb-false a b e))

pub pick_all : {A : Type 0} (P : A → Type 0) (t : Bool) {x y : A} → P x → P y → P (pick t x y)
unfolding pick
pick_all P true h k = h
pick_all P false h k = k

-- what holds of two values that one test picks
pub pick_both : {A B : Type 0} (P : A → B → Type 0) (t : Bool) {x x' : A} {y y' : B} → (t ≡ true → P x y) → (t ≡ false → P x' y') → P (pick t x x') (pick t y y')
unfolding pick
pick_both P true h k = h refl
pick_both P false h k = k refl

-- ---- uniqueness: two answers that meet a promise are equal, where the promise is an equation of the answer
pub determined : {A : Type 0} {x r s : A} → r ≡ x → s ≡ x → r ≡ s
determined p q = p ∙ sym q

-- or of the numbers that an answer stands for, and these give the answer back
pub determined_by : {A B : Type 0} (numbers : A → B) (back : B → A) → ((a : A) → back (numbers a) ≡ a) → {x : B} {r s : A} → numbers r ≡ x → numbers s ≡ x → r ≡ s
determined_by numbers back kept {x} {r} {s} p q = sym (kept r) ∙ ap back (p ∙ sym q) ∙ kept s

-- ---- a value by a test, from the test's fact: `search (needs, cases)` goes down a definition of nested picks by the code's tests
module _ {A : Type 0} {x : A} (y z : A) where
  pub when_eq : {a b : ℕ} → a ≡ b → x ≡ y → x ≡ pick (eqb a b) y z
  unfolding pick
  when_eq {a} {b} h e = simp (eq-eqb a b h) e

  pub when_ne : {a b : ℕ} → (a ≡ b → ⊥) → x ≡ z → x ≡ pick (eqb a b) y z
  unfolding pick
  when_ne {a} {b} h e = simp (ne_eqb a b h) e

  pub when_lt : {a b : ℕ} → a < b → x ≡ y → x ≡ pick (ltb a b) y z
  unfolding pick
  when_lt {a} {b} h e = simp (lt-ltb a b h) e

  pub when_ge : {a b : ℕ} → b ≤ a → x ≡ z → x ≡ pick (ltb a b) y z
  unfolding pick
  when_ge {a} {b} h e = simp (le-ltb a b h) e

  pub when_le : {a b : ℕ} → a ≤ b → x ≡ y → x ≡ pick (leb a b) y z
  unfolding pick
  when_le {a} {b} h e = simp (le-leb a b h) e

  pub when_gt : {a b : ℕ} → b < a → x ≡ z → x ≡ pick (leb a b) y z
  unfolding pick
  when_gt {a} {b} h e = simp (lt-leb a b h) e

  pub when_true : {t : Bool} → t ≡ true → x ≡ y → x ≡ pick t y z
  unfolding pick
  when_true h e = simp h e

  pub when_false : {t : Bool} → t ≡ false → x ≡ z → x ≡ pick t y z
  unfolding pick
  when_false h e = simp h e

  -- the same where the code's number or flag is what a call said of the definition's
  pub said_eq : {a b p : ℕ} → p ≡ a → p ≡ b → x ≡ y → x ≡ pick (eqb a b) y z
  said_eq f h e = when_eq (sym f ∙ h) e

  pub said_ne : {a b p : ℕ} → p ≡ a → (p ≡ b → ⊥) → x ≡ z → x ≡ pick (eqb a b) y z
  said_ne f h e = when_ne (λ g. h (f ∙ g)) e

  pub said_true : {t b : Bool} → b ≡ t → b ≡ true → x ≡ y → x ≡ pick t y z
  said_true f h e = when_true (sym f ∙ h) e

  pub said_false : {t b : Bool} → b ≡ t → b ≡ false → x ≡ z → x ≡ pick t y z
  said_false f h e = when_false (sym f ∙ h) e

pub ruleset said = (said_eq, said_ne, said_true, said_false)

pub ruleset cases = (when_eq, when_ne, when_lt, when_ge, when_le, when_gt, when_true, when_false)
