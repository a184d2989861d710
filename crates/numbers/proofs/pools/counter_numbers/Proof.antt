-- `counter_numbers` meets its contract: field by field. Assumes nothing.
use mathlib.Core.Path.{refl}
use Rattle.numbers.specs.Pool.{counter_numbers}
use Rattle.numbers.proofs.pools.counter_numbers.Statement.{statement}
use Rattle.numbers.proofs.pools.counter_numbers.Tie as tie

pub counter_numbers_spec : {M : Type 1} → statement M
unfolding counter_numbers
counter_numbers_spec =
    tie.close
    (tie.spec
    (λ c. refl))
