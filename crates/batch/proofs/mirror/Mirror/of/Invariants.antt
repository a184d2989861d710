-- `Mirror::of` meets its contract: after i turns the rows show i heads. Assumes nothing.
use Rattle.std.proofs.Common.{◌≡◌}
use Rattle.batch.specs.inner.Mirror.{Mirrors}
use Rattle.batch.proofs.mirror.Mirror.of.Given as goal

abbrev pub invariant-loop-i : goal.invariant-loop-i
invariant-loop-i l = Mirrors l.i l.heads l.m.keys l.m.owners l.m.lasts × (l.m.size ≡ l.size)
