-- The PGN and the destination of an identifier on both sides of PF 240: reserved bit, data page, PF and PS stand side by side. Assumes nothing.
use Prim.Native.Nat.{ℕ, ◌+◌, ◌*◌, ◌/◌, ◌%◌, ◌<◌, ◌≤◌}
use mathlib.Core.Path.{◌≡◌, refl, ◌∙◌}
use native.Mathlib.Nat.{div-add-mod', div-div-eq-div-mul}
use native.Mathlib.Omega.{arith}
use borrow.Author.Tests.{lt-ltb, le-ltb}
use Rattle.std.proofs.Common.{Some, None}
use Rattle.base.specs.Pick.{pick}
use Rattle.base.proofs.Cases.{when_lt, when_ge}
use Rattle.can_id.specs.Layout.{reserved_of, data_page_of, pf_of, ps_of, pgn_of, destination_of}

-- the quotient by `a` has the quotient by `a * b` above its last digit
pub digit : (x a b : ℕ) → x / (a * b) * b + x / a % b ≡ x / a
digit x a b = rw (← div-div-eq-div-mul) (div-add-mod' (x / a) b)

-- ten bits: the reserved bit, the data page and PF
ten : (w x y z r d f : ℕ) → r < 2 → d < 2 → f < 256 → x * 256 + f ≡ w → y * 2 + d ≡ x → z * 2 + r ≡ y → w % 0x400 ≡ r * 512 + d * 256 + f
ten w x y z r d f hr hd hf e1 e2 e3 = omega arith

-- and eight more below them
more : (v w t s : ℕ) → s < 256 → w * 256 + s ≡ v → w % 0x400 ≡ t → v % 0x4_0000 ≡ t * 256 + s
more v w t s hs e h = omega arith

module _ (id : ℕ) where
  upper : id / 0x1_0000 % 0x400 ≡ reserved_of id * 512 + data_page_of id * 256 + pf_of id
  upper =
      ten _ (id / 0x100_0000) (id / 0x200_0000) (id / 0x400_0000) (reserved_of id) (data_page_of id) (pf_of id) (omega arith) (omega arith) (omega arith)
      (digit id 0x1_0000 256) (digit id 0x100_0000 2) (digit id 0x200_0000 2)

  pub pgn_addressed : pf_of id < 240 → id / 0x1_0000 % 0x400 * 0x100 ≡ pgn_of id
  unfolding pgn_of pick
  pgn_addressed h = simp (lt-ltb _ _ h) (rw upper (omega arith))

  pub pgn_broadcast : 240 ≤ pf_of id → id / 0x100 % 0x4_0000 ≡ pgn_of id
  unfolding pgn_of pick
  pgn_broadcast h =
      simp (le-ltb _ _ h)
      (more _ (id / 0x1_0000) _ (ps_of id) (omega arith) (digit id 256 256) upper ∙ omega arith)

  pub destination_addressed : pf_of id < 240 → Some (ps_of id) ≡ destination_of id
  unfolding destination_of
  destination_addressed h = when_lt _ _ h refl

  pub destination_broadcast : 240 ≤ pf_of id → None ≡ destination_of id
  unfolding destination_of
  destination_broadcast h = when_ge _ _ h refl
