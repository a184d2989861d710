-- `Pool::with_kind` meets its contract: the test picks the law, and no answer is named after it. Assumes nothing.
use Rattle.std.proofs.Common.{rules}
use Rattle.assembler.proofs.MakingLaws.{too_many, all_made}
use Rattle.assembler.proofs.Pool.with_kind.Statement.{statement}
use Rattle.assembler.proofs.Pool.with_kind.Tie as tie

pub with_kind_spec : {M : Type 1} → statement M
with_kind_spec =
    tie.close
    (tie.spec
    (λ c κs. search rules)
    (λ c κs. search rules)
    (λ c. search (rules, too_many, all_made))
    (λ c. search (rules, too_many, all_made)))
