-- The laws that the proofs of `fast_packet` go by: what the list has, and the bytes of a frame cut short. Assumes nothing.
use Rattle.std.proofs.Common.{◌≡◌, ℕ, zero, suc, ◌+◌, ◌-◌, ◌<◌, ◌≤◌, min, Bool, eqb, List, [], ◌∷◌, ◌++◌, length, get_or, take, drop, set, replicate, sym, refl, ap, ◌∙◌, arith, ne_eqb}
use Rattle.std.specs.List.{list_any}
use Rattle.base.proofs.Cases.{same?}
use Rattle.base.specs.Lists.{any, fill}
use Rattle.base.proofs.Fills.{get_or_in, pasted, fill_none, fill_turn, fill_done}
use lib.ListN.{length-take, get_or-eq_default}
use lib.Seq.{get_or-take}
use Rattle.fast_packet.specs.FastPacket.{listed_in, filled_from}

-- ---- the list
same_way : (a b : ℕ) → eqb a b ≡ eqb b a
same_way a b = same? a b (λ h. rw h refl) (λ h. ne_eqb a b h ∙ sym (ne_eqb b a (λ g. h (sym g))))

module _ (pgn : ℕ) where
  found : (l : List ℕ) → list_any (λ y. eqb y pgn) l ≡ any (eqb pgn) l
  unfolding any
  found [] = refl
  found (x ∷ l) = rw (same_way x pgn, found l) refl

  pub listed_found : (l : List ℕ) {r : Bool} → r ≡ list_any (λ y. eqb y pgn) l → r ≡ listed_in pgn l
  unfolding listed_in
  listed_found l e = e ∙ found l

-- ---- a row of 0xFF whose first places are written is the filled row
fill_nil : (m : ℕ) → replicate m 255 ≡ fill m []
unfolding fill
fill_nil zero = refl
fill_nil (suc m) = ap (λ (t : List ℕ). 255 ∷ t) (fill_nil m)

pub fill_parts : (n m : ℕ) (s : List ℕ) → n ≡ min m (length s) → take n s ++ drop n (replicate m 255) ≡ fill m s
unfolding fill
fill_parts zero zero s h = refl
fill_parts zero (suc m) [] h = fill_nil (suc m)
fill_parts zero (suc m) (x ∷ s) h = absurd (omega arith)
fill_parts (suc n) zero s h = absurd (omega arith)
fill_parts (suc n) (suc m) [] h = absurd (omega arith)
fill_parts (suc n) (suc m) (x ∷ s) h = ap (λ (t : List ℕ). x ∷ t) (fill_parts n m s (omega arith))

-- ---- the bytes of a frame cut short
module _ (bytes : List ℕ) (len i : ℕ) (eight : length bytes ≡ 8) (inside : i < 8) where
  pub kept_byte : i < len → get_or bytes i 0 ≡ get_or (take (min len 8) bytes) i 255
  kept_byte h = get_or_in bytes i 0 255 (omega arith) ∙ sym (get_or-take (min len 8) bytes i 255 (omega arith))

  pub filled_byte : len ≤ i → 255 ≡ get_or (take (min len 8) bytes) i 255
  filled_byte h = sym (get_or-eq_default (take (min len 8) bytes) 255 (simp length-take (omega arith)))

-- ---- the loop that writes the frame, `d` being what it starts from: a turn, and the last list is the definition's
module _ (bytes d : List ℕ) (len k : ℕ) (out : List ℕ) (eight : length d ≡ 8) (e : out ≡ pasted d 0 (take (min len 8) bytes) k) where
  pub cut_turn : (x : ℕ) → k < 8 → x ≡ get_or (take (min len 8) bytes) k 255 → set out k x ≡ pasted d 0 (take (min len 8) bytes) (k + 1)
  cut_turn x h g =
      let z : k - 0 ≡ k = omega arith in
      fill_turn d 0 (take (min len 8) bytes) k x out eight (omega arith) h e (rw z g)

  pub cut_done : k ≤ 8 → 8 ≤ k → out ≡ filled_from len bytes
  unfolding filled_from
  cut_done h g = fill_done d 0 (take (min len 8) bytes) k out eight (omega arith) g (omega arith) e

pub ruleset cutting = (fill_none, cut_turn, cut_done)
