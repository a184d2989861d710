-- The cases of the tests on lengths, as the code meets them. Assumes nothing.
use Rattle.std.proofs.Common.{◌≡◌, ℕ, ◌+◌, ◌-◌, ◌*◌, ◌/◌, ◌<◌, ◌≤◌, true, ltb, sym, ◌∙◌, arith, le-ltb, lt-ltb}
use Rattle.base.proofs.Cases.{less?}
use Rattle.batch.specs.Lengths.{too_short}
use Rattle.batch.specs.inner.Room.{no_room}

module _ (n a b c d e : ℕ) where
  pub few_pgns : a < n → true ≡ too_short n a b c d e
  unfolding too_short
  few_pgns h = rw (lt-ltb a n h)

  module _ (h1 : n ≤ a) where
    pub few_sources : b < n → true ≡ too_short n a b c d e
    unfolding too_short
    few_sources h = rw (le-ltb a n h1, lt-ltb b n h)

    module _ (h2 : n ≤ b) where
      pub few_bytes : c / 8 < n → true ≡ too_short n a b c d e
      unfolding too_short
      few_bytes h = let l : c < n * 8 = omega arith in rw (le-ltb a n h1, le-ltb b n h2, lt-ltb c (n * 8) l)

      module _ (h3 : n ≤ c / 8) where
        pub few_kinds : d < n → true ≡ too_short n a b c d e
        unfolding too_short
        few_kinds h = let l : n * 8 ≤ c = omega arith in rw (le-ltb a n h1, le-ltb b n h2, le-ltb c (n * 8) l, lt-ltb d n h)

        pub few_lengths : n ≤ d → ltb e n ≡ too_short n a b c d e
        unfolding too_short
        few_lengths h = let l : n * 8 ≤ c = omega arith in rw (le-ltb a n h1, le-ltb b n h2, le-ltb c (n * 8) l, le-ltb d n h)

pub ruleset short_rules = (few_pgns, few_sources, few_bytes, few_kinds, few_lengths)

module _ (room used n : ℕ) where
  pub room_left : used ≤ room → ltb (room - used) n ≡ no_room room used n
  room_left h =
      less? (room - used) n
      (λ k. let l : room < used + n = omega arith in lt-ltb (room - used) n k ∙ sym (lt-ltb room (used + n) l))
      (λ k. let l : used + n ≤ room = omega arith in le-ltb (room - used) n k ∙ sym (le-ltb room (used + n) l))

  pub overfull : room < used → true ≡ no_room room used n
  overfull h = let l : room < used + n = omega arith in sym (lt-ltb room (used + n) l)
