-- `batching::process_frames` meets its contract: after i frames the code's state is the run's, and each frame more is a step of it. Assumes nothing.
use Rattle.std.proofs.Common.{◌≡◌}
use Rattle.batch.proofs.Steps.{Stands}
use Rattle.batch.proofs.batching.process_frames.Given as goal

abbrev pub invariant-loop-i : goal.invariant-loop-i
invariant-loop-i l = Stands l.initial.pool.kind l.mode l.pgns (record { times = l.frames.times.now; pgns = l.frames.pgns.now; sources = l.frames.sources.now; bytes = l.frames.data.now }) l.initial.pool l.initial.c l.initial.kinds l.initial.lengths l.initial.arena l.kinds l.lengths l.arena l.pool l.mirror.keys l.mirror.owners l.mirror.lasts l.c l.used l.i
    × (l.mirror.size ≡ l.pool.size) × (l.list.pgns.now ≡ l.pgns)
