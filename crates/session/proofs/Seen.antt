-- What the walk sees is what searches from the first head on find. Assumes nothing.
use Prim.Native.Nat.{ℕ, ◌+◌, ◌≤◌, ◌<◌}
use mathlib.Core.Path.{◌≡◌, refl, sym, ap, ◌∙◌}
use mathlib.Core.Bool.{Bool, true, false, ◌||◌}
use mathlib.Core.Option.{Option, none, some}
use mathlib.Core.List.{List, [], ◌∷◌}
use lib.ListN.{length}
use lib.Dec.{ltb}
use native.Mathlib.Omega.{arith}
use native.Mathlib.Nat.{zero-add, add-zero}
use borrow.Author.Tests.{lt-ltb}
use Rattle.base.specs.Pick.{pick}
use Rattle.base.specs.Lists.{next_place, here, or_else, first_at, any}
use Rattle.base.proofs.First.{first_passes}
use Rattle.session.specs.declared.Head.{Head}
use Rattle.session.specs.declared.Heard.{Heard}
use Rattle.session.specs.Rules.{Rules, pool_limit}
use Rattle.session.specs.Heads.{impossible_head, has_key, is_free, is_free_of_source, has_live_key}
use Rattle.session.specs.inner.Search.{nothing_found, looked, seen, first_of, within_limit}

-- ---- a search's answer as the walk has it

unfoldable pub found : Option ℕ → Bool
found none = false
found (some i) = true

unfoldable pub place : Option ℕ → ℕ
place none = pool_limit
place (some i) = i

unfoldable pub spot : Option ℕ → ℕ
spot none = 0
spot (some i) = i

abbrev pub Inside : ℕ → Option ℕ → Type 0
Inside n none = Unit
Inside n (some i) = i < n

pub placed_found : (o : Option ℕ) (n : ℕ) → n ≤ pool_limit → Inside n o → ltb (place o) pool_limit ≡ found o
unfolding found place
placed_found none n h u = refl
placed_found (some i) n h u = lt-ltb i pool_limit (omega arith)

pub placed_spot : (o : Option ℕ) (n : ℕ) → n ≤ pool_limit → Inside n o → within_limit (place o) ≡ spot o
unfolding within_limit pick spot place
placed_spot none n h u = refl
placed_spot (some i) n h u = rw (lt-ltb i pool_limit (omega arith))

pub inside_first : {A : Type 0} (t : A → Bool) (l : List A) (e : A) → Inside (length l) (first_at t l)
inside_first t l e = go (first_at t l) refl
  where
    go : (o : Option ℕ) → first_at t l ≡ o → Inside (length l) o
    go none q = tt
    go (some i) q = (first_passes t l e i q).inside

pub inside_or : (n : ℕ) (a b : Option ℕ) → Inside n a → Inside n b → Inside n (or_else a b)
unfolding or_else
inside_or n none b u v = v
inside_or n (some i) b u v = u

pub first_of_lem : (a b : Option ℕ) (n : ℕ) → n ≤ pool_limit → Inside n a → first_of (place a) (place b) ≡ place (or_else a b)
unfolding first_of pick place or_else
first_of_lem none b n h u = refl
first_of_lem (some i) b n h u = rw (lt-ltb i pool_limit (omega arith))

-- ---- the walk, field by field; ix i is a place of the heads from i on

ix : ℕ → Option ℕ → ℕ
ix i none = pool_limit
ix i (some j) = i + j

ix_here : (b : Bool) (i : ℕ) (o : Option ℕ) → pick b i (ix (i + 1) o) ≡ ix i (here b o)
unfolding pick ix here next_place
ix_here true i o = sym (add-zero i)
ix_here false i none = refl
ix_here false i (some j) = omega arith

ix_place : (o : Option ℕ) → ix 0 o ≡ place o
unfolding ix place
ix_place none = refl
ix_place (some j) = zero-add j

module _ (R : Rules) (f : Heard) where
  pub seen_bad : (hs : List Head) (i : ℕ) → (seen R f i hs).bad ≡ any (impossible_head R) hs
  unfolding seen nothing_found looked any
  seen_bad [] i = refl
  seen_bad (h ∷ hs) i = ap (◌||◌ (impossible_head R h)) (seen_bad hs (i + 1))

  key_from : (hs : List Head) (i : ℕ) → (seen R f i hs).key ≡ ix i (first_at (has_key R f) hs)
  unfolding seen nothing_found looked first_at ix
  key_from [] i = refl
  key_from (h ∷ hs) i = ap (pick (has_key R f h) i) (key_from hs (i + 1)) ∙ ix_here (has_key R f h) i (first_at (has_key R f) hs)

  live_from : (hs : List Head) (i : ℕ) → (seen R f i hs).live ≡ ix i (first_at (has_live_key R f) hs)
  unfolding seen nothing_found looked first_at ix
  live_from [] i = refl
  live_from (h ∷ hs) i = ap (pick (has_live_key R f h) i) (live_from hs (i + 1)) ∙ ix_here (has_live_key R f h) i (first_at (has_live_key R f) hs)

  own_from : (hs : List Head) (i : ℕ) → (seen R f i hs).own ≡ ix i (first_at (is_free_of_source R f) hs)
  unfolding seen nothing_found looked first_at ix
  own_from [] i = refl
  own_from (h ∷ hs) i = ap (pick (is_free_of_source R f h) i) (own_from hs (i + 1)) ∙ ix_here (is_free_of_source R f h) i (first_at (is_free_of_source R f) hs)

  free_from : (hs : List Head) (i : ℕ) → (seen R f i hs).free ≡ ix i (first_at (is_free R f) hs)
  unfolding seen nothing_found looked first_at ix
  free_from [] i = refl
  free_from (h ∷ hs) i = ap (pick (is_free R f h) i) (free_from hs (i + 1)) ∙ ix_here (is_free R f h) i (first_at (is_free R f) hs)

  pub seen_key : (hs : List Head) → (seen R f 0 hs).key ≡ place (first_at (has_key R f) hs)
  seen_key hs = key_from hs 0 ∙ ix_place (first_at (has_key R f) hs)

  pub seen_live : (hs : List Head) → (seen R f 0 hs).live ≡ place (first_at (has_live_key R f) hs)
  seen_live hs = live_from hs 0 ∙ ix_place (first_at (has_live_key R f) hs)

  pub seen_own : (hs : List Head) → (seen R f 0 hs).own ≡ place (first_at (is_free_of_source R f) hs)
  seen_own hs = own_from hs 0 ∙ ix_place (first_at (is_free_of_source R f) hs)

  pub seen_free : (hs : List Head) → (seen R f 0 hs).free ≡ place (first_at (is_free R f) hs)
  seen_free hs = free_from hs 0 ∙ ix_place (first_at (is_free R f) hs)
