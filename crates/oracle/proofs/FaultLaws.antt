-- Laws of the walk along a frame's bytes, in the shape of the code's tests. Assumes nothing.
use Prim.Native.Nat.{ℕ, ◌+◌, ◌/◌, ◌%◌, ◌<◌, ◌≤◌}
use mathlib.Core.Bool.{Bool, true, false}
use Rattle.std.specs.Prelude.{Some, None}
use Rattle.std.specs.Option.{option_or}
use mathlib.Core.List.{List}
use mathlib.Core.Path.{◌≡◌, refl, ap, ◌∙◌}
use native.Mathlib.Numerals.{add-one}
use native.Mathlib.Omega.{arith}
use borrow.Author.Tests.{eq-eqb, ne_eqb}
use lib.Dec.{eqb, ltb}
use lib.ListN.{length, get_or, drop, drop_of_length-le}
use lib.Seq.{drop-cons}
use Rattle.base.specs.Pick.{pick}
use Rattle.base.proofs.Cases.{when_eq, when_ne}
use Rattle.oracle.specs.Strict.{odd_of}
use Rattle.oracle.specs.declared.Fault.{Fault}
use Rattle.oracle.specs.inner.Frames.{Standing, padding_at, first_then, later_then, message_end, fault_at}

-- ---- the walk for the first odd byte
module _ (l : List ℕ) (i from : ℕ) (n : length l ≡ 8) where
  odd_here : i < 8 → odd_of (drop i l) ≡ pick (eqb (get_or l i 0) 255) (odd_of (drop (i + 1) l)) (get_or l i 0)
  unfolding odd_of
  odd_here h = rw (add-one i, drop-cons l i 0 (omega arith))

  pub odd_found : i < 8 → odd_of (drop i l) ≡ odd_of (drop from l) → (get_or l i 0 ≡ 255 → ⊥) → get_or l i 0 ≡ odd_of (drop from l)
  unfolding pick
  odd_found h e q = rw (← e, odd_here h, ne_eqb (get_or l i 0) 255 q)

  pub odd_past : i < 8 → odd_of (drop i l) ≡ odd_of (drop from l) → get_or l i 0 ≡ 255 → odd_of (drop (i + 1) l) ≡ odd_of (drop from l)
  unfolding pick
  odd_past h e q = rw (← e, odd_here h, eq-eqb (get_or l i 0) 255 q)

  pub odd_none : 8 ≤ i → odd_of (drop i l) ≡ odd_of (drop from l) → 255 ≡ odd_of (drop from l)
  unfolding odd_of
  odd_none h e = let k : length l ≤ i = omega arith in rw (← e, drop_of_length-le l k)

pub ruleset oddness = (odd_found, odd_past, odd_none)

-- ---- a fault of the header, or else of the padding
module _ (why why' why'' : Fault) (rest : Standing) where
  first_or : (a b c : Bool) → option_or (pick a (Some why) (pick b (Some why') (pick c (Some why'') None))) rest ≡ pick a (Some why) (pick b (Some why') (pick c (Some why'') rest))
  unfolding pick
  first_or true b c = refl
  first_or false true c = refl
  first_or false false true = refl
  first_or false false false = refl

  later_or : (a b c : Bool) → option_or (pick a (Some why) (pick b (pick c None (Some why')) (Some why''))) rest ≡ pick a (Some why) (pick b (pick c rest (Some why')) (Some why''))
  unfolding pick
  later_or true b c = refl
  later_or false false c = refl
  later_or false true true = refl
  later_or false true false = refl

-- ---- a frame of eight bytes
module _ (n missing wanted next : ℕ) (bs : List ℕ) (len : ℕ) {end odd : ℕ} {p a r : Standing} (eight : len ≡ 8) (ee : end ≡ message_end missing (get_or bs 0 0) (get_or bs 1 0)) (eo : odd ≡ odd_of (drop end bs)) (ep : p ≡ padding_at n odd) (er : r ≡ option_or a p) where
  pub fault_first : get_or bs 0 0 % 32 ≡ 0 → a ≡ first_then n missing (get_or bs 1 0) None → r ≡ fault_at n missing wanted next bs len
  unfolding fault_at
  fault_first z ea =
      when_eq _ _ eight
      (when_eq _ _ z
      (er ∙ ap (λ (x : Standing). option_or x p) ea ∙ ap (option_or (first_then n missing (get_or bs 1 0) None)) (ep ∙ ap (padding_at n) (eo ∙ ap (λ (k : ℕ). odd_of (drop k bs)) ee))
      ∙ first_or _ _ _ _ (ltb 0 missing) (eqb (get_or bs 1 0) 0) (ltb 223 (get_or bs 1 0))))

  pub fault_later : (get_or bs 0 0 % 32 ≡ 0 → ⊥) → a ≡ later_then n missing wanted next (get_or bs 0 0 / 32) (get_or bs 0 0 % 32) None → r ≡ fault_at n missing wanted next bs len
  unfolding fault_at
  fault_later z ea =
      when_eq _ _ eight
      (when_ne _ _ z
      (er ∙ ap (λ (x : Standing). option_or x p) ea ∙ ap (option_or (later_then n missing wanted next (get_or bs 0 0 / 32) (get_or bs 0 0 % 32) None)) (ep ∙ ap (padding_at n) (eo ∙ ap (λ (k : ℕ). odd_of (drop k bs)) ee))
      ∙ later_or _ _ _ _ (eqb missing 0) (eqb (get_or bs 0 0 / 32) wanted) (eqb (get_or bs 0 0 % 32) next)))
