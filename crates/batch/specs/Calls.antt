-- The same frames by single calls one after the other, with no arena to run full. Theorems speak of it; no contract does.
use Rattle.std.specs.Prelude.{ℕ, zero, suc, ◌*◌, List, ◌++◌, drop}
use Rattle.session.specs.Rules.{Rules}
use Rattle.batch.specs.Rows.{Rows, frame_in_rows, Run, took, answer_in}

-- n frames, the first of them frame i
unfoldable pub call_each : Rules → List ℕ → Rows → ℕ → ℕ → Run → Run
call_each R pgns w zero i z = z
call_each R pgns w (suc n) i z = call_each R pgns w n (suc i) (took z (answer_in R pgns z (frame_in_rows w i)))

-- the rows without the first t frames
unfoldable pub rest : ℕ → Rows → Rows
rest t w = record { times = drop t w.times; pgns = drop t w.pgns; sources = drop t w.sources; bytes = drop (t * 8) w.bytes }

-- what two runs did, one after the other
unfoldable pub joined : Run → Run → Run
joined y z = record { pool = z.pool; counters = z.counters; kinds = y.kinds ++ z.kinds; lengths = y.lengths ++ z.lengths; messages = y.messages ++ z.messages }
