-- The loop that walks over the heads, from the last to the first. Assumes nothing.
use Prim.Native.Nat.{ℕ, ◌+◌, ◌-◌, ◌≤◌, ◌<◌}
use mathlib.Core.Path.{◌≡◌, refl, subst, ◌∙◌}
use mathlib.Core.Bool.{Bool, true, false}
use mathlib.Core.List.{List}
use lib.ListN.{length, get_or, take, drop, drop_of_length-le}
use lib.Seq.{drop-cons, get_or-take, length-take-le}
use lib.Dec.{ltb}
use native.Mathlib.Numerals.{add-one}
use native.Mathlib.Omega.{arith}
use borrow.Author.Tests.{lt-ltb, le-ltb, ltb-true, ltb-false}
use Rattle.base.specs.Pick.{pick}
use Rattle.session.specs.declared.Head.{Head}
use Rattle.session.specs.declared.Heard.{Heard}
use Rattle.session.specs.declared.Found.{Found}
use Rattle.session.specs.Rules.{Rules, pool_limit}
use Rattle.session.specs.inner.Search.{nothing_found, looked, seen, seen_if, found_in}

-- of a pool that is too large nothing is looked at; else s is what is seen from place i on
pub data Walk (R : Rules) (f : Heard) (n : ℕ) (hs : List Head) : Found → ℕ → Type 0 where
  crowded : {s : Found} {i : ℕ} → pool_limit < n → s ≡ nothing_found true → i ≡ 0 → Walk R f n hs s i
  among : {s : Found} {i : ℕ} → n ≤ pool_limit → i ≤ n → s ≡ seen R f i (drop i (take n hs)) → Walk R f n hs s i

module _ (R : Rules) (f : Heard) (n : ℕ) (hs : List Head) (long : n ≤ length hs) where
  seen_none : nothing_found false ≡ seen R f n (drop n (take n hs))
  unfolding seen
  seen_none =
      let e : length (take n hs) ≤ n = omega (arith, length-take-le n hs long) in
      rw (drop_of_length-le (take n hs) e)

  seen_turn : (i : ℕ) (d : Head) (s r : Found) → i < n → s ≡ seen R f (i + 1) (drop (i + 1) (take n hs)) → r ≡ looked R f i (get_or hs i d) s → r ≡ seen R f i (drop i (take n hs))
  unfolding seen
  seen_turn i d s r h es er =
      let inside : i < length (take n hs) = omega (arith, length-take-le n hs long) in
      er ∙ rw (es, drop-cons (take n hs) i d inside, get_or-take n hs i d h, add-one i)

module _ (R : Rules) (f : Heard) (n : ℕ) (hs : List Head) where
  pub walk_start : length hs ≡ pool_limit → (s : Found) (i : ℕ) → s ≡ nothing_found (ltb pool_limit n) → i ≡ pick (ltb pool_limit n) 0 n → Walk R f n hs s i
  unfolding pick
  walk_start w s i es ei = go (ltb pool_limit n) refl es ei
    where
      go : (b : Bool) → ltb pool_limit n ≡ b → s ≡ nothing_found b → i ≡ pick b 0 n → Walk R f n hs s i
      go true e es ei = crowded (ltb-true pool_limit n e) es ei
      go false e es ei =
          let small : n ≤ pool_limit = ltb-false pool_limit n e in
          among {s = s} {i = i} small (omega arith) (rw ei (es ∙ seen_none R f n hs (omega (arith, w))))

  pub walk_turn : length hs ≡ pool_limit → (s r : Found) (i : ℕ) (d : Head) → Walk R f n hs s i → 0 < i → r ≡ looked R f (i - 1) (get_or hs (i - 1) d) s → Walk R f n hs r (i - 1)
  walk_turn w s r i d (crowded h es z) l er = absurd (omega arith)
  walk_turn w s r i d (among h g es) l er =
      let e : i ≡ (i - 1) + 1 = omega arith in
      among {s = r} {i = i - 1} h (omega arith)
      (seen_turn R f n hs (omega (arith, w)) (i - 1) d s r (omega arith) (subst (λ (k : ℕ). s ≡ seen R f k (drop k (take n hs))) e es) er)

  pub walk_done : (s : Found) (i : ℕ) → Walk R f n hs s i → i ≤ 0 → s ≡ found_in R f n hs
  unfolding found_in seen_if
  walk_done s i (crowded h es z) l = es ∙ rw (lt-ltb pool_limit n h)
  walk_done s i (among h g es) l =
      let z : i ≡ 0 = omega arith in
      subst (λ (k : ℕ). s ≡ seen R f k (drop k (take n hs))) z es ∙ rw (le-ltb pool_limit n h)
