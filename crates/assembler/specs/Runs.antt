-- Many calls, each given the pool and counters that the last one left.
use Rattle.std.specs.Prelude.{List, [], ◌∷◌, ℕ}
use Rattle.session.specs.declared.Counters.{Counters}
use Rattle.session.specs.Rules.{Rules}
use Rattle.session.specs.Counting.{fresh_counters}
use Rattle.assembler.specs.Call.{Call}
use Rattle.assembler.specs.Slots.{Slots, fresh_slots}
use Rattle.assembler.specs.Step.{Reply, Outcome}

-- an assembler: what one call gives
abbrev pub Assembler : Type 0
Assembler = Slots → Counters → Call → Outcome

pub record World : Type 0 where
  pub pool : Slots
  pub counters : Counters
  -- the replies, the latest first
  pub replies : List Reply

-- a fresh pool of n slots, and counters at 0
unfoldable pub fresh_world : Rules → ℕ → World
fresh_world R n = record { pool = fresh_slots R n; counters = fresh_counters; replies = [] }

unfoldable pub after_outcome : Outcome → List Reply → World
after_outcome o older = record { pool = o.pool; counters = o.counters; replies = o.reply ∷ older }

unfoldable pub call_one : Assembler → World → Call → World
call_one f w c = after_outcome (f w.pool w.counters c) w.replies

unfoldable pub call_all : Assembler → World → List Call → World
call_all f w [] = w
call_all f w (c ∷ cs) = call_all f (call_one f w c) cs
