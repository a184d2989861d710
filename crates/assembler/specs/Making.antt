-- A fresh pool, and what making one gives.
use Rattle.std.specs.Prelude.{Result, Ok, Err, [], ◌≡◌, ℕ, ◌*◌, replicate, ltb}
use Rattle.base.specs.Answer.{Answer, gives, refuses}
use Rattle.base.specs.Pick.{pick}
use Rattle.fast_packet.specs.FastPacket.{max_payload}
use Rattle.session.specs.declared.Mode.{Mode}
use Rattle.session.specs.declared.Mode.TheVariants.{AsOriginal}
use Rattle.session.specs.declared.PoolKind.{PoolKind}
use Rattle.session.specs.declared.PoolKind.TheVariants.{Original}
use Rattle.session.specs.Rules.{pool_limit}
use Rattle.session.specs.Heads.{fresh_head}
use Rattle.assembler.specs.declared.Pool.{Pool}
use Rattle.assembler.specs.declared.ImpossiblePool.{ImpossiblePool}

-- a buffer of 223 bytes for each slot
abbrev pub pool_bytes : ℕ
pool_bytes = pool_limit * max_payload

-- "A fresh slot is idle with zeros.": all heads, and all buffers end to end; document 02, No. 10: "a mode, chosen when the pool is made", and so is No. 12's kind
unfoldable pub fresh_pool_in : PoolKind → Mode → ℕ → Pool
fresh_pool_in kind mode n = record { kind = kind; mode = mode; size = n; heads = replicate pool_limit fresh_head; bytes = replicate pool_bytes 0 }

-- where nothing is chosen the pool is as the original
unfoldable pub fresh_pool : ℕ → Pool
fresh_pool n = fresh_pool_in Original AsOriginal n

-- "A pool has 0 to 8 slots", by No. 7 to 32. "Asked for more, making one gives refusal 1": the size given, or the refusal
unfoldable pub size_made : ℕ → Answer ℕ
size_made n = pick (ltb pool_limit n) (refuses 1 []) (gives n)

-- ".. and a fresh pool of size 0"
unfoldable pub pool_made : PoolKind → Mode → Answer ℕ → Pool
pool_made kind mode (gives n) = fresh_pool_in kind mode n
pool_made kind mode (refuses k carried) = fresh_pool_in kind mode 0

-- what making a pool gives: the pool, or the refusal with a pool
abbrev pub Made : Type 0
Made = Result Pool ImpossiblePool

-- 01's number of each case; what is given is the size
unfoldable pub of_made : Made → Answer ℕ
of_made (Ok p) = gives p.size
of_made (Err e) = refuses 1 []

-- the pool, in either case
unfoldable pub made_pool : Made → Pool
made_pool (Ok p) = p
made_pool (Err e) = e.pool

-- what `Pool::with_kind` promises
pub record MakesPoolOf (kind : PoolKind) (mode : Mode) (wanted : ℕ) (r : Made) : Type 0 where
  pub answer : of_made r ≡ size_made wanted
  pub left : made_pool r ≡ pool_made kind mode (size_made wanted)

-- what `Pool::with_mode` promises: of the original's kind
abbrev pub MakesPoolIn : Mode → ℕ → Made → Type 0
MakesPoolIn mode wanted r = MakesPoolOf Original mode wanted r

-- what `Pool::new` promises: as the original
abbrev pub MakesPool : ℕ → Made → Type 0
MakesPool wanted r = MakesPoolIn AsOriginal wanted r
