-- `fill_short` meets its contract: after k turns the first k bytes are those of the filled frame. Assumes nothing.
use Rattle.std.proofs.Common.{◌≡◌, ◌≤◌, min, length, take}
use Rattle.base.proofs.Fills.{pasted}
use Rattle.fast_packet.proofs.fill_short.Given as goal

abbrev pub invariant-loop-k : goal.invariant-loop-k
invariant-loop-k l = (l.k ≤ 8) × (length l.initial.out ≡ 8) × (length l.out ≡ 8) × (l.out ≡ pasted l.initial.out 0 (take (min l.len 8) l.data) l.k)
