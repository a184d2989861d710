-- The numbers of a head in progress that is not impossible. Assumes nothing.
use Prim.Native.Nat.{ℕ, suc, zero, ◌+◌, ◌*◌, ◌≤◌, ◌<◌}
use mathlib.Core.Path.{◌≡◌}
use mathlib.Core.Bool.{Bool, true, false, not, ◌&&◌}
use mathlib.Core.List.{List, [], ◌∷◌}
use lib.ListN.{length, get_or}
use lib.Dec.{eqb, ltb}
use native.Mathlib.Omega.{arith}
use borrow.Author.Tests.{ltb-true, ltb-false, eqb-true, not-false}
use Rattle.base.specs.Lists.{any}
use Rattle.base.proofs.Bools.{or_left, or_right, and_left}
use Rattle.session.specs.declared.Head.{Head}
use Rattle.session.specs.declared.Heard.{Heard}
use Rattle.session.specs.Rules.{Rules}
use Rattle.session.specs.Heads.{impossible_head, has_key, has_live_key}

pub record Sound (h : Head) : Type 0 where
  pub sequence : h.sequence_id ≤ 7
  pub least : 7 ≤ h.expected_size
  pub most : h.expected_size ≤ 223
  pub held : h.current_size ≡ 6 + 7 * h.last_frame_index
  pub below : h.current_size < h.expected_size

pub none_at : {A : Type 0} (t : A → Bool) (l : List A) (i : ℕ) (e : A) → any t l ≡ false → i < length l → t (get_or l i e) ≡ false
unfolding any
none_at t [] i e n h = absurd (omega arith)
none_at t (x ∷ xs) zero e n h = or_left (t x) (any t xs) n
none_at t (x ∷ xs) (suc i) e n h = none_at t xs i e (or_right (t x) (any t xs) n) (omega arith)

module _ (R : Rules) where
  pub sound : (h : Head) → h.in_progress ≡ true → impossible_head R h ≡ false → Sound h
  unfolding impossible_head
  sound h busy e =
      let e0 = rw busy at e in
      let e1 = or_right (ltb 7 h.sequence_id) _ e0 in
      let e2 = or_right (ltb h.expected_size 7) _ e1 in
      let e3 = or_right (ltb 223 h.expected_size) _ e2 in
      let e4 = or_right (not (eqb h.current_size (6 + 7 * h.last_frame_index))) _ e3 in
      record {
        sequence = ltb-false 7 h.sequence_id (or_left (ltb 7 h.sequence_id) _ e0);
        least = ltb-false h.expected_size 7 (or_left (ltb h.expected_size 7) _ e1);
        most = ltb-false 223 h.expected_size (or_left (ltb 223 h.expected_size) _ e2);
        held =
            eqb-true h.current_size (6 + 7 * h.last_frame_index)
            (not-false (eqb h.current_size (6 + 7 * h.last_frame_index)) (or_left (not (eqb h.current_size (6 + 7 * h.last_frame_index))) _ e3));
        below = ltb-true h.current_size h.expected_size (not-false (ltb h.current_size h.expected_size) (or_left (not (ltb h.current_size h.expected_size)) _ e4));
      }

  -- ... and its part
  pub fitting : (h : Head) → h.in_progress ≡ true → impossible_head R h ≡ false → R.allowed h.pgn h.part ≡ true
  unfolding impossible_head
  fitting h busy e =
      let e0 = rw busy at e in
      let e1 = or_right (ltb 7 h.sequence_id) _ e0 in
      let e2 = or_right (ltb h.expected_size 7) _ e1 in
      let e3 = or_right (ltb 223 h.expected_size) _ e2 in
      let e4 = or_right (not (eqb h.current_size (6 + 7 * h.last_frame_index))) _ e3 in
      not-false (R.allowed h.pgn h.part) (or_right (not (ltb h.current_size h.expected_size)) _ e4)

  pub busy_live : (f : Heard) (h : Head) → has_live_key R f h ≡ true → h.in_progress ≡ true
  unfolding has_live_key has_key
  busy_live f h e = and_left h.in_progress _ (and_left (h.in_progress && _) _ e)
