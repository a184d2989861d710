-- `size_under` meets its contract: the test picks the case. Assumes nothing.
use borrow.Author.Rules.{rules}
use Rattle.base.proofs.Cases.{cases}
use Rattle.numbers.specs.Pool.{size_under}
use Rattle.numbers.proofs.pools.size_under.Statement.{statement}
use Rattle.numbers.proofs.pools.size_under.Tie as tie

pub size_under_spec : {M : Type 1} → statement M
unfolding size_under
size_under_spec =
    tie.close
    (tie.spec
    (λ c. search rules)
    (λ c. search (rules, cases))
    (λ c. search (rules, cases)))
