-- `counters_from` meets its contract: field by field. Assumes nothing.
use borrow.Author.Rules.{rules}
use mathlib.Core.Path.{refl}
use Rattle.numbers.specs.Pool.{counters_from}
use Rattle.numbers.proofs.pools.counters_from.Statement.{statement}
use Rattle.numbers.proofs.pools.counters_from.Tie as tie

pub counters_from_spec : {M : Type 1} → statement M
unfolding counters_from
counters_from_spec =
    tie.close
    (tie.spec
    (λ c. search rules)
    (λ c. search rules)
    (λ c. search rules)
    (λ c. search rules)
    (λ c. search rules)
    (λ c. refl))
