-- The pools that the calls make: a fresh one, or what a call left of such a pool. Document 01 calls none of them impossible (proofs/ByCalls).
use Rattle.std.specs.Prelude.{true, List, ◌≡◌, ℕ}
use Rattle.base.specs.Answer.{Answer, gives, refuses}
use Rattle.session.specs.declared.Counters.{Counters}
use Rattle.session.specs.declared.Heard.{Heard}
use Rattle.session.specs.declared.Mode.{Mode}
use Rattle.session.specs.declared.PoolKind.{PoolKind}
use Rattle.session.specs.Rules.{Rules}
use Rattle.assembler.specs.declared.Pool.{Pool}
use Rattle.assembler.specs.declared.Processed.{Processed}
use Rattle.assembler.specs.declared.Received.{Received}
use Rattle.assembler.specs.Call.{CallOk, part_fits}
use Rattle.assembler.specs.Making.{size_made, pool_made, fresh_pool}
use Rattle.assembler.specs.Promises.{rules_of, ReceivesHeard, ProcessesHeard}

-- what an entry gives to the steps: eight bytes and a part that its PGN allows, or nothing
pub data FrameOk (R : Rules) (pgns : List ℕ) : Answer Heard → Type 0 where
  hears : {f : Heard} → CallOk (record { pgns = pgns; heard = f }) → part_fits R (record { pgns = pgns; heard = f }) ≡ true → FrameOk R pgns (gives f)
  refused : {n : ℕ} {carried : List ℕ} → FrameOk R pgns (refuses n carried)

pub data ByCalls : Pool → Type 0 where
  made : (kind : PoolKind) (mode : Mode) (size : ℕ) → ByCalls (pool_made kind mode (size_made size))
  by_default : ByCalls (fresh_pool 4)
  received : {p : Pool} {pgns : List ℕ} {a : Answer Heard} {k : Counters} {r : Received} → FrameOk (rules_of p) pgns a → ReceivesHeard pgns a p k r → ByCalls p → ByCalls r.pool
  processed : {p : Pool} {pgns : List ℕ} {a : Answer Heard} {before after : Counters} {r : Processed} → FrameOk (rules_of p) pgns a → ProcessesHeard pgns a p before r after → ByCalls p
      → ByCalls r.pool
