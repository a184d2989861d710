-- What reading gives on both sides of 2^29. Assumes nothing.
use Prim.Native.Nat.{ℕ, ◌<◌, ◌≤◌}
use mathlib.Core.List.{[]}
use Rattle.std.proofs.Common.{Option}
use mathlib.Core.Path.{◌≡◌, refl}
use Rattle.base.proofs.Cases.{when_le, when_gt}
use Rattle.base.specs.Answer.{gives, refuses}
use Rattle.can_id.specs.Layout.{priority_of, pgn_of, destination_of, source_of}
use Rattle.can_id.specs.Read.{parts_of, read_of}

module _ (id : ℕ) where
  pub read_wide : 0x2000_0000 ≤ id → refuses 8 [] ≡ read_of id
  unfolding read_of
  read_wide h = when_le _ _ h refl

  pub read_narrow : id < 0x2000_0000 → gives (parts_of id) ≡ read_of id
  unfolding read_of
  read_narrow h = when_gt _ _ h refl

  -- part by part, as the code asks for them
  pub read_parts : {p g s : ℕ} {d : Option ℕ} → id < 0x2000_0000 → p ≡ priority_of id → g ≡ pgn_of id → s ≡ source_of id → d ≡ destination_of id
      → gives (record { priority = p; pgn = g; source_address = s; destination = d }) ≡ read_of id
  read_parts h ep eg es ed = rw (ep, eg, es, ed) (read_narrow h)
