-- A frame's row: what is written over a row that is 0xFF from there on makes the filled rest of the payload. Assumes nothing.
use Rattle.std.proofs.Common.{◌≡◌, ℕ, ◌+◌, ◌-◌, min, List, ◌++◌, length, take, drop, replicate, sym, refl, ◌∙◌, arith, length-drop}
use lib.ListN.{drop_of_length-le}
use lib.Seq.{take_all}
use borrow.Rule.Slice.PartMut.{put_mid}
use Rattle.base.specs.Lists.{fill}
use Rattle.base.proofs.Cases.{less?}
use Rattle.fast_packet.proofs.Laws.{fill_parts}
use Rattle.builder.specs.inner.Placed.{headed, laid_at}

-- the slice of what is left of a payload, and nothing past its end
rest_is : (sent cut : ℕ) (p : List ℕ) → cut ≡ min sent (length p) → take (length p - cut) (drop cut p) ≡ drop sent p
rest_is sent cut p e =
    take_all (length p - cut) (drop cut p) (rw length-drop (omega arith))
    ∙ less? (length p) sent
    (λ h. drop_of_length-le p {i = cut} (omega (arith, h)) ∙ sym (drop_of_length-le p {i = sent} (omega (arith, h))))
    (λ h. let c : cut ≡ sent = omega (arith, h) in rw c refl)

module _ (head size at index sent : ℕ) (p : List ℕ) where
  pub placed_row : (cut count : ℕ) {m : List ℕ} → drop at (headed head size) ≡ replicate (8 - at) 255 → cut ≡ min sent (length p)
      → count ≡ min (length (take (length p - cut) (drop cut p))) (8 - at) → m ≡ take count (take (length p - cut) (drop cut p))
      → record { «data» = put_mid at (at + count - at) (headed head size) m; len = 8; frame_index = index; bytes_sent = sent + count } ≡ laid_at head size at index sent p
  unfolding laid_at
  placed_row cut count {m} tail ec en em =
      let row : List ℕ = headed head size in
      let r : take (length p - cut) (drop cut p) ≡ drop sent p = rest_is sent cut p ec in
      let n : count ≡ min (8 - at) (length (drop sent p)) = en ∙ rw r (omega arith) in
      let taken : m ≡ take count (drop sent p) = em ∙ rw r refl in
      let k : at + count - at ≡ count = omega arith in
      let bytes : count ≡ min (8 - at) (length p - sent) = n ∙ rw length-drop refl in
      let d : put_mid at (at + count - at) row m ≡ take at row ++ fill (8 - at) (drop sent p) =
      rw (k, taken, tail, fill_parts count (8 - at) (drop sent p) n) refl in
      rw (d, ← bytes) refl
