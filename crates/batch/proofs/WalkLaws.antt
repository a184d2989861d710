-- The cases of the tests of one place, how far a walk has come, and that the one walk's choice is that of three. Assumes nothing.
use Rattle.std.proofs.Common.{◌≡◌, ℕ, zero, suc, ◌+◌, ◌-◌, ◌%◌, ◌<◌, ◌≤◌, Bool, true, false, not, ◌&&◌, ◌||◌, eqb, ltb, List, get_or, sym, refl, ap, ◌∙◌, add-zero, zero-add, arith, le-ltb, lt-ltb, eq-eqb, ne_eqb}
use Rattle.std.specs.Prelude.{Option, Some, None, unwrap_or, IfSome}
use Rattle.base.specs.Pick.{pick}
use Rattle.base.proofs.Bools.{or_left, or_right}
use Rattle.base.proofs.Cases.{less?}
use Rattle.session.specs.declared.Mode.{Mode}
use Rattle.session.specs.declared.Mode.TheVariants.{AsOriginal, SetBackIsSilence}
use Rattle.session.specs.Rules.{pool_limit, silence, silent_by}
use Rattle.session.specs.inner.Search.{first_of}
use Rattle.session.proofs.SearchLaws.{first_here}
use Rattle.batch.specs.declared.walks.Stop.TheVariants.{Keyed, Other, Nowhere}
use Rattle.batch.specs.inner.Mirror.{first_from, key_at, open_at, own_at, live_at, chosen_in}
use Rattle.batch.specs.inner.Walks.{clock_end, heard_within, owner_at, in_four, Past, Stops}

-- ---- tests of one place

module _ (time last : ℕ) where
  -- d is how far the last time is after 500 before now, coming round
  module _ (early : time ≤ clock_end) (small : last ≤ clock_end) (d : ℕ) (less : d ≤ clock_end) (round : (d + (time - 500)) % (clock_end + 1) ≡ last) where
    to_the_end : ltb (clock_end - (time - 500)) d ≡ silence time last
    unfolding silence
    to_the_end =
        less? last (time - 500)
        (λ l. lt-ltb (clock_end - (time - 500)) d (omega (arith, round)) ∙ sym (lt-ltb 500 (time - last) (omega arith)))
        (λ l. le-ltb (clock_end - (time - 500)) d (omega (arith, round)) ∙ sym (le-ltb 500 (time - last) (omega arith)))

    up_to_now : ltb (time - (time - 500)) d ≡ (silence time last || ltb time last)
    unfolding silence
    up_to_now =
        less? last (time - 500)
        (λ l. lt-ltb (time - (time - 500)) d (omega (arith, round)) ∙ rw (lt-ltb 500 (time - last) (omega arith)) refl)
        (λ l. rw (le-ltb 500 (time - last) (omega arith))
        (less? time last
        (λ y. lt-ltb (time - (time - 500)) d (omega (arith, round)) ∙ sym (lt-ltb time last y))
        (λ n. le-ltb (time - (time - 500)) d (omega (arith, round)) ∙ sym (le-ltb time last n))))

    silent_from : (mode : Mode) (c : ℕ) → c ≡ heard_within mode time → ltb c d ≡ silent_by mode time last
    unfolding silent_by heard_within
    silent_from AsOriginal c e = rw e to_the_end
    silent_from SetBackIsSilence c e = rw e up_to_now

  -- as the code has it: the wrapping difference of the last time and the silence's end
  pub silent_is : time ≤ clock_end → last ≤ clock_end → (s : ℕ) → s ≡ time - 500 → (mode : Mode) (c : ℕ) → c ≡ heard_within mode time
      → ltb c ((last + (clock_end + 1 - s)) % (clock_end + 1)) ≡ silent_by mode time last
  silent_is early small s es mode c e =
      silent_from early small ((last + (clock_end + 1 - s)) % (clock_end + 1)) (omega arith) (omega (arith, early, small, es)) mode c e

-- whether the place is live with the key
module _ (mode : Mode) (keys lasts : List ℕ) (key time j : ℕ) where
  pub live_other : (get_or keys j 0 ≡ key → ⊥) → live_at mode keys lasts key time j ≡ false
  unfolding live_at
  live_other n = rw (ne_eqb (get_or keys j 0) key n)

  module _ (e : get_or keys j 0 ≡ key) (b : Bool) (eb : b ≡ silent_by mode time (get_or lasts j 0)) where
    pub live_here : not b ≡ true → live_at mode keys lasts key time j ≡ true
    unfolding live_at
    live_here y = rw (eq-eqb (get_or keys j 0) key e, ← eb) y

    pub live_gone : not b ≡ false → live_at mode keys lasts key time j ≡ false
    unfolding live_at
    live_gone y = rw (eq-eqb (get_or keys j 0) key e, ← eb) y

-- whether the place has the key
module _ (keys : List ℕ) (key j : ℕ) where
  pub key_here : get_or keys j 0 ≡ key → key_at keys key j ≡ true
  unfolding key_at
  key_here e = eq-eqb (get_or keys j 0) key e

  pub key_gone : (get_or keys j 0 ≡ key → ⊥) → key_at keys key j ≡ false
  unfolding key_at
  key_gone n = ne_eqb (get_or keys j 0) key n

-- a place of this source that is open is of this source, and is open
module _ (mode : Mode) (keys owners lasts : List ℕ) (source time j : ℕ) where
  pub own_fails : (b : Bool) → b ≡ ((eqb (get_or keys j 0) 0 || silent_by mode time (get_or lasts j 0)) && eqb (get_or owners j 0) source) → b ≡ false → own_at mode keys owners lasts source time j ≡ false
  unfolding own_at open_at
  own_fails b e y = sym e ∙ y

  pub own_owner : owner_at owners source j ≡ false → own_at mode keys owners lasts source time j ≡ false
  unfolding owner_at own_at
  own_owner e = rw e (and_false (open_at mode keys lasts time j))
    where
      and_false : (b : Bool) → (b && false) ≡ false
      and_false true = refl
      and_false false = refl

  pub own_open : open_at mode keys lasts time j ≡ false → own_at mode keys owners lasts source time j ≡ false
  unfolding own_at
  own_open e = rw e

-- ---- how far a walk has come

module _ (t : ℕ → Bool) where
  pub past_turn : (i s : ℕ) → Past t i s → t s ≡ false → Past t i (s + 1)
  past_turn i s p e = record { low = omega (arith, p.low); fails = λ j l h. less? j s (λ m. p.fails j l m) (λ m. let here : j ≡ s = omega arith in rw here e) }

  pub past_join : (i s r : ℕ) → Past t i s → Past t s r → Past t i r
  past_join i s r p q = record { low = omega (arith, p.low, q.low); fails = λ j l h. less? j s (λ m. p.fails j l m) (λ m. q.fails j m h) }

  pub past_four : (i s : ℕ) → Past t i s → in_four t s ≡ false → Past t i (s + 4)
  unfolding in_four
  past_four i s p e =
      let abc = or_left ((t s || t (s + 1)) || t (s + 2)) (t (s + 3)) e in
      let ab = or_left (t s || t (s + 1)) (t (s + 2)) abc in
      let p1 = past_turn i s p (or_left (t s) (t (s + 1)) ab) in
      let p2 = past_turn i (s + 1) p1 (or_right (t s) (t (s + 1)) ab) in
      let e2 : (s + 1) + 1 ≡ s + 2 = omega arith in
      let e3 : (s + 2) + 1 ≡ s + 3 = omega arith in
      let e4 : (s + 3) + 1 ≡ s + 4 = omega arith in
      let p3 = past_turn i (s + 2) (rw e2 at p2) (or_right (t s || t (s + 1)) (t (s + 2)) abc) in
      let p4 = past_turn i (s + 3) (rw e3 at p3) (or_right ((t s || t (s + 1)) || t (s + 2)) (t (s + 3)) e) in
      rw e4 at p4

-- what fails wherever another fails
pub past_with : (t u : ℕ → Bool) (i r : ℕ) → ((j : ℕ) → t j ≡ false → u j ≡ false) → Past t i r → Past u i r
past_with t u i r both p = record { low = p.low; fails = λ j l h. both j (p.fails j l h) }

-- a walk for an open place of the source, that leapt from place s to place r
module _ (mode : Mode) (keys owners lasts : List ℕ) (source time : ℕ) (i s r : ℕ) where
  pub past_leap : Past (own_at mode keys owners lasts source time) i s → own_at mode keys owners lasts source time s ≡ false → Past (owner_at owners source) (s + 1) r → Past (own_at mode keys owners lasts source time) i r
  past_leap p e q =
      let t = own_at mode keys owners lasts source time in
      past_join t i (s + 1) r (past_turn t i s p e) (past_with (owner_at owners source) t (s + 1) r (λ j. own_owner mode keys owners lasts source time j) q)

-- a walk that came to the end
pub past_end : (t : ℕ → Bool) (i s n : ℕ) → s ≤ n → n ≤ s → Past t i s → Past t i n
past_end t i s n l h p = let all : s ≡ n = omega arith in rw all at p

-- ---- the first place that passes, from what was passed by

module _ (t : ℕ → Bool) where
  skipped : (i d m : ℕ) → Past t i (i + d) → first_from t i (d + m) ≡ first_from t (i + d) m
  unfolding first_from pick
  skipped i zero m p = rw (zero-add m, add-zero i)
  skipped i (suc d) m p =
      let on : suc i + d ≡ i + suc d = omega arith in
      let rest : Past t (suc i) (suc i + d) = record { low = omega arith; fails = λ j l h. p.fails j (omega arith) (omega arith) } in
      let more : suc d + m ≡ suc (d + m) = omega arith in
      rw (more, p.fails i (omega arith) (omega arith)) (skipped (suc i) d m rest ∙ ap (λ (k : ℕ). first_from t k m) on)

  pub first_on : (i s n : ℕ) → s ≤ n → Past t i s → first_from t i (n - i) ≡ first_from t s (n - s)
  first_on i s n h p =
      let here : i + (s - i) ≡ s = omega (arith, p.low) in
      let all : (s - i) + (n - s) ≡ n - i = omega (arith, p.low) in
      rw (here, all) at (skipped i (s - i) (n - s) (rw here p))

  pub first_at_lem : (s n : ℕ) → s < n → t s ≡ true → first_from t s (n - s) ≡ s
  unfolding first_from pick
  first_at_lem s n l e = let more : n - s ≡ suc (n - suc s) = omega arith in rw (more, e)

  -- a walk that began at i ends at place s, or has come to the end
  pub first_found : (i s n : ℕ) → s < n → Past t i s → t s ≡ true → s ≡ first_from t i (n - i)
  first_found i s n l p e = sym (first_on i s n (omega arith) p ∙ first_at_lem s n l e)

  pub first_end : (s n : ℕ) → n ≤ s → first_from t s (n - s) ≡ pool_limit
  unfolding first_from
  first_end s n l = let z : n - s ≡ 0 = omega arith in rw z

  pub first_missed : (i s n : ℕ) → n ≤ s → s ≤ n → Past t i s → pool_limit ≡ first_from t i (n - i)
  first_missed i s n l h p = sym (first_on i s n h p ∙ first_end s n l)

  first_is : (s n : ℕ) → s < n → Past t 0 s → t s ≡ true → first_from t 0 n ≡ s
  first_is s n l p e = let all : n - 0 ≡ n = omega arith in (rw all at (first_on 0 s n (omega arith) p)) ∙ first_at_lem s n l e

  first_none : (n : ℕ) → Past t 0 n → first_from t 0 n ≡ pool_limit
  first_none n p = let all : n - 0 ≡ n = omega arith in (rw all at (first_on 0 n n (omega arith) p)) ∙ first_end n n (omega arith)

  -- the same for a walk over all places
  pub all_found : (s n : ℕ) → s < n → Past t 0 s → t s ≡ true → s ≡ first_from t 0 n
  all_found s n l p e = sym (first_is s n l p e)

  pub all_missed : (s n : ℕ) → n ≤ s → s ≤ n → Past t 0 s → pool_limit ≡ first_from t 0 n
  all_missed s n l h p = let all : s ≡ n = omega arith in sym (first_none n (rw all at p))

-- ---- a place that was found, if one was, is one of n

pub low_within : (o : Option ℕ) (n : ℕ) → n ≤ pool_limit → IfSome o (λ (s : ℕ). s < n) → IfSome o (λ (s : ℕ). s < pool_limit)
low_within None n small l = l
low_within (Some s) n small l = omega (arith, small, l)

pub own_low : (o : Option ℕ) (n b : ℕ) → b < n → IfSome o (λ (s : ℕ). s < n) → unwrap_or o b < n
own_low None n b low l = low
own_low (Some s) n b low l = l

-- ---- the one walk's choice is that of a walk for each candidate

module _ (mode : Mode) (keys owners lasts : List ℕ) (n key source time : ℕ) (small : n ≤ pool_limit) where
  abbrev k : ℕ → Bool
  k = key_at keys key

  abbrev o : ℕ → Bool
  o = own_at mode keys owners lasts source time

  abbrev v : ℕ → Bool
  v = open_at mode keys lasts time

  abbrev chosen : ℕ
  chosen = chosen_in mode keys owners lasts n key source time

  -- where no place is open, none is open and of the source
  own_past : (i r : ℕ) → Past v i r → Past o i r
  own_past i r p = past_with v o i r (own_open mode keys owners lasts source time) p

  at_first_key : (s : ℕ) → s < n → Past k 0 s → k s ≡ true → s ≡ chosen
  unfolding chosen_in
  at_first_key s l p y = first_here s (first_of (first_from o 0 n) (first_from v 0 n)) (omega arith) ∙ rw (first_is k s n l p y)

  pub chosen_key : (s : ℕ) → Stops k v 0 n (Keyed s) → s ≡ chosen
  chosen_key s at = at_first_key s at.0 at.1 at.2

  pub chosen_none : Stops k v 0 n Nowhere → pool_limit ≡ chosen
  unfolding chosen_in first_of pick
  chosen_none at = rw (first_none k n at.0, first_none o n (own_past 0 n at.1), first_none v n at.1)

  module _ (a : ℕ) (free : Stops k v 0 n (Other a)) where
    -- what the first part of the walk passed by, the second need not look at
    keys_on : (r : ℕ) → Past k a r → Past k 0 r
    keys_on r p = past_join k 0 a r (record { low = omega arith; fails = λ j l h. free.1.fails j l (omega arith) }) p

    owns_on : (r : ℕ) → Past o a r → Past o 0 r
    owns_on r p = past_join o 0 a r (own_past 0 a free.2) p

    pub chosen_later_key : (b : ℕ) → Stops k o a n (Keyed b) → b ≡ chosen
    chosen_later_key b at = at_first_key b at.0 (keys_on b at.1) at.2

    pub chosen_free : Stops k o a n Nowhere → a ≡ chosen
    unfolding chosen_in first_of pick
    chosen_free at = rw (first_none k n (keys_on n at.0), first_none o n (owns_on n at.1), first_is v a n free.0 free.2 free.3)

    -- the key after the own place, if there is one
    pub chosen_own : (b : ℕ) → Stops k o a n (Other b) → (c : Option ℕ) → unwrap_or c pool_limit ≡ first_from k (b + 1) (n - (b + 1)) → IfSome c (λ (s : ℕ). s < n) → unwrap_or c b ≡ chosen
    unfolding chosen_in first_of pick
    chosen_own b at c ec low =
        let all : n - 0 ≡ n = omega arith in
        let key : first_from k 0 n ≡ unwrap_or c pool_limit = (rw all at (first_on k 0 (b + 1) n (omega (arith, at.0)) (keys_on (b + 1) at.1))) ∙ sym ec in
        let here : first_from o 0 n ≡ b = first_is o b n at.0 (owns_on b at.2) at.3 in
        key_or_own c low ∙ rw (key, here, ← first_here b (first_from v 0 n) (omega (arith, at.0)))
      where
        key_or_own : (c : Option ℕ) → IfSome c (λ (s : ℕ). s < n) → unwrap_or c b ≡ first_of (unwrap_or c pool_limit) b
        key_or_own None l = refl
        key_or_own (Some s) l = first_here s b (omega (arith, l))
