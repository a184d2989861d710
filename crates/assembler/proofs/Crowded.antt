-- What the walk over a pool's heads says of the pool: of one that is too large nothing is looked at, what is bad is impossible, and the places are those of the
-- first slots that document 01's steps look for. Assumes nothing.
use Rattle.std.proofs.Common.{◌≡◌, ℕ, ◌<◌, Bool, true, false, ◌||◌, ltb, List, take, refl, sym, ap, ◌∙◌, lt-ltb}
use Rattle.std.proofs.Math.Option.{Option, none, some}
use Rattle.base.specs.Pick.{pick}
use Rattle.base.specs.Lists.{first_at, any}
use Rattle.session.specs.declared.Found.{Found}
use Rattle.session.specs.declared.Head.{Head}
use Rattle.session.specs.declared.Heard.{Heard}
use Rattle.session.specs.Rules.{Rules, pool_limit}
use Rattle.session.specs.Heads.{impossible_head, has_key, is_free, is_free_of_source, has_live_key}
use Rattle.session.specs.inner.Search.{nothing_found, seen_if, found_in}
use Rattle.session.proofs.Seen.{place, seen_bad, seen_key, seen_live, seen_own, seen_free}
use Rattle.session.proofs.SearchLaws.{same_limit}
use Rattle.assembler.specs.declared.Pool.{Pool}
use Rattle.assembler.specs.Slots.{on_head, impossible}
use Rattle.assembler.specs.View.{slots_from, slots_of}
use Rattle.assembler.specs.Promises.{rules_of}
use Rattle.assembler.specs.Firsts.{looked_over, place_or, first_slot, first_slots}
use Rattle.assembler.proofs.Views.{first_view, any_view}

pub none_looked_at : (R : Rules) (f : Heard) (n : ℕ) (hs : List Head) (s : Found) → pool_limit < n → s ≡ nothing_found true → s ≡ found_in R f n hs
unfolding found_in seen_if
none_looked_at R f n hs s h e = e ∙ rw (lt-ltb pool_limit n h)

pub looked_at : (R : Rules) (f : Heard) (p : Pool) → R.limit ≡ pool_limit → (found_in R f p.size p.heads).bad ≡ impossible R (slots_of p)
unfolding found_in seen_if nothing_found impossible slots_of
looked_at R f p limit = go (ltb pool_limit p.size) refl R.limit limit
  where
    go : (b : Bool) → ltb pool_limit p.size ≡ b → (n : ℕ) → n ≡ pool_limit
        → (seen_if b R f p.size p.heads).bad ≡ (ltb n p.size || any (on_head (impossible_head R)) (take p.size (slots_from p.heads p.bytes)))
    go true e n en = rw (en, e)
    go false e n en = rw (en, e, any_view (impossible_head R) p.size p.heads p.bytes) (seen_bad R f (take p.size p.heads) 0)

pub bad_is_impossible : (f : Heard) (p : Pool) {s : Found} → s ≡ found_in (rules_of p) f p.size p.heads → s.bad ≡ impossible (rules_of p) (slots_of p)
bad_is_impossible f p e = ap (λ (x : Found). x.bad) e ∙ looked_at (rules_of p) f p (unfold rules_of in same_limit p.kind p.mode)

-- ---- what the walk finds, said by the steps: `first_slots`

same_found : {a b : Found} → a.bad ≡ b.bad → a.key ≡ b.key → a.live ≡ b.live → a.own ≡ b.own → a.free ≡ b.free → a ≡ b
same_found bad key live own free = rw (bad, key, live, own, free)

placed : (o : Option ℕ) → place o ≡ place_or pool_limit o
unfolding place place_or
placed none = refl
placed (some i) = refl

module _ (R : Rules) (f : Heard) (p : Pool) (limit : R.limit ≡ pool_limit) where
  -- the first head that passes has the place of the first slot that does
  first_head : (t : Head → Bool) → ltb R.limit p.size ≡ false → place (first_at t (take p.size p.heads)) ≡ first_slot R t (slots_of p)
  unfolding first_slot looked_over slots_of pick
  first_head t e =
      ap place (sym (first_view t p.size p.heads p.bytes)) ∙ placed (first_at (on_head t) (take p.size (slots_from p.heads p.bytes)))
      ∙ ap (λ (n : ℕ). place_or n (first_at (on_head t) (take p.size (slots_from p.heads p.bytes)))) (sym limit) ∙ rw e

  too_large : ltb pool_limit p.size ≡ true → found_in R f p.size p.heads ≡ first_slots R f (slots_of p)
  unfolding found_in seen_if nothing_found first_slots first_slot looked_over impossible slots_of pick place_or first_at
  too_large e = rw (limit, e)

  not_too_large : ltb pool_limit p.size ≡ false → found_in R f p.size p.heads ≡ first_slots R f (slots_of p)
  unfolding found_in seen_if first_slots
  not_too_large e =
      let small : ltb R.limit p.size ≡ false = rw limit e in
      same_found (looked_at R f p limit)
      (rw e (seen_key R f (take p.size p.heads) ∙ first_head (has_key R f) small))
      (rw e (seen_live R f (take p.size p.heads) ∙ first_head (has_live_key R f) small))
      (rw e (seen_own R f (take p.size p.heads) ∙ first_head (is_free_of_source R f) small))
      (rw e (seen_free R f (take p.size p.heads) ∙ first_head (is_free R f) small))

  pub walk_firsts : found_in R f p.size p.heads ≡ first_slots R f (slots_of p)
  walk_firsts = go (ltb pool_limit p.size) refl
    where
      go : (b : Bool) → ltb pool_limit p.size ≡ b → found_in R f p.size p.heads ≡ first_slots R f (slots_of p)
      go true e = too_large e
      go false e = not_too_large e

-- what `Pool::found` promises, as the steps say it
pub walk_finds : (f : Heard) (p : Pool) {s : Found} → s ≡ found_in (rules_of p) f p.size p.heads → s ≡ first_slots (rules_of p) f (slots_of p)
walk_finds f p e = e ∙ walk_firsts (rules_of p) f p (unfold rules_of in same_limit p.kind p.mode)
