-- The laws that `Pool::with_kind` goes by: a pool that is too large is not made, and any other is fresh. Assumes nothing.
use Rattle.std.proofs.Common.{◌≡◌, ℕ, ◌<◌, ◌≤◌, lt-ltb, le-ltb, Ok, Err}
use Rattle.base.specs.Pick.{pick}
use Rattle.session.specs.Rules.{pool_limit}
use Rattle.session.specs.declared.Mode.{Mode}
use Rattle.session.specs.declared.PoolKind.{PoolKind}
use Rattle.assembler.specs.Making.{fresh_pool_in, size_made, pool_made, of_made, made_pool, MakesPoolOf}
use Rattle.assembler.specs.declared.Pool.{Pool}

module _ (kind : PoolKind) (mode : Mode) (n : ℕ) (p : Pool) where
  pub too_many : pool_limit < n → p ≡ fresh_pool_in kind mode 0 → MakesPoolOf kind mode n (Err (record { pool = p }))
  unfolding size_made pool_made of_made made_pool pick
  too_many h e = let over = lt-ltb pool_limit n h in record { answer = rw over; left = rw (e, over) }

  pub all_made : n ≤ pool_limit → p ≡ fresh_pool_in kind mode n → MakesPoolOf kind mode n (Ok p)
  unfolding size_made pool_made of_made made_pool fresh_pool_in pick
  all_made h e = let within = le-ltb pool_limit n h in record { answer = rw (e, within); left = rw (e, within) }
