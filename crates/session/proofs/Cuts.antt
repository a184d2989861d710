-- What the tests for a cut frame say: of a frame that passes them, and that a frame of which all eight bytes were sent passes them. Assumes nothing.
use Prim.Native.Nat.{ℕ, zero, suc, ◌+◌, ◌-◌, ◌≤◌, min}
use mathlib.Core.Path.{◌≡◌, refl, ap}
use mathlib.Core.List.{List, [], ◌∷◌}
use lib.ListN.{take, drop}
use mathlib.Core.Bool.{true, false, not}
use native.Mathlib.Omega.{arith}
use borrow.Author.Tests.{not-true, ltb-false, lt-ltb, le-ltb, eqb-true, ne_eqb}
use Rattle.base.proofs.Bools.{or_left, or_right, or_false, or_true, and_left, and_right, and_true}
use Rattle.session.specs.declared.Heard.{Heard}
use Rattle.session.specs.declared.Head.{Head}
use Rattle.session.specs.Frames.{size_of, bad_size, is_empty, cut_first, bad_first}
use Rattle.session.specs.Heads.{wanted, in_turn, cut_next, is_next}

-- the bytes that were sent are the frame's as far as they go
pub sent_part : (k w n : ℕ) (bytes : List ℕ) → k + w ≤ n → take w (drop k (take n bytes)) ≡ take w (drop k bytes)
sent_part zero zero n bytes h = refl
sent_part zero (suc w) zero bytes h = absurd (omega arith)
sent_part zero (suc w) (suc n) [] h = refl
sent_part zero (suc w) (suc n) (b ∷ bytes) h = ap (◌∷◌ b) (sent_part zero w n bytes (omega arith))
sent_part (suc k) w zero bytes h = absurd (omega arith)
sent_part (suc k) w (suc n) [] h = refl
sent_part (suc k) w (suc n) (b ∷ bytes) h = sent_part k w n bytes (omega arith)

module _ (f : Heard) where
  -- a frame without a byte is no good first frame
  pub empty_cut : is_empty f ≡ true → cut_first f ≡ true
  unfolding is_empty cut_first
  empty_cut e = lt-ltb f.length (2 + min 6 (size_of f)) (omega (arith, eqb-true f.length 0 e))

  pub empty_bad : is_empty f ≡ true → bad_first f ≡ true
  unfolding bad_first
  empty_bad e = rw (empty_cut e) (or_true (bad_size f))

  pub first_good : bad_first f ≡ false → bad_size f ≡ false
  unfolding bad_first
  first_good e = or_left (bad_size f) (cut_first f) e

  pub first_sent : bad_first f ≡ false → 2 + min 6 (size_of f) ≤ f.length
  unfolding bad_first cut_first
  first_sent e = ltb-false f.length (2 + min 6 (size_of f)) (or_right (bad_size f) _ e)

  module _ (h : Head) where
    pub next_in_turn : is_next f h ≡ true → in_turn f h ≡ true
    unfolding is_next
    next_in_turn e = and_left (in_turn f h) (not (cut_next f h)) e

    pub next_sent : is_next f h ≡ true → 1 + wanted h ≤ f.length
    unfolding is_next cut_next
    next_sent e = ltb-false f.length (1 + wanted h) (not-true (cut_next f h) (and_right (in_turn f h) (not (cut_next f h)) e))

  -- ---- all eight bytes were sent
  module _ (eight : f.length ≡ 8) where
    pub eight_sent : is_empty f ≡ false
    unfolding is_empty
    eight_sent = ne_eqb f.length 0 (λ z. omega (arith, z, eight))

    pub eight_first : cut_first f ≡ false
    unfolding cut_first
    eight_first = le-ltb f.length (2 + min 6 (size_of f)) (omega (arith, eight))

    pub eight_bad : bad_first f ≡ bad_size f
    unfolding bad_first
    eight_bad = rw (eight_first) (or_false (bad_size f))

    pub eight_cut : (h : Head) → cut_next f h ≡ false
    unfolding cut_next wanted
    eight_cut h = le-ltb f.length (1 + min 7 (h.expected_size - h.current_size)) (omega (arith, eight))

    pub eight_next : (h : Head) → is_next f h ≡ in_turn f h
    unfolding is_next
    eight_next h = rw (eight_cut h) (and_true (in_turn f h))
