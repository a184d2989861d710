-- `Pool::default` meets its contract: the code is the definition. Assumes nothing.
use borrow.Author.Rules.{rules}
use Rattle.assembler.specs.Making.{fresh_pool}
use Rattle.assembler.proofs.Pool.default.Goals as goal

pub returns : goal.returns
unfolding fresh_pool
returns c = search rules
