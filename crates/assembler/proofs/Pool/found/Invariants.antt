-- `Pool::found` meets its contract: what is seen from place i on. Assumes nothing.
use Rattle.std.proofs.Common.{◌≡◌, ◌≤◌, length}
use Rattle.session.specs.Rules.{pool_limit}
use Rattle.assembler.specs.Promises.{rules_of}
use Rattle.session.proofs.Walks.{Walk}
use Rattle.assembler.proofs.Pool.found.Given as goal

abbrev pub invariant-loop-i : goal.invariant-loop-i
invariant-loop-i l = (l.i ≤ pool_limit) × (length l.self.heads ≡ pool_limit) × Walk (rules_of l.self) l.heard l.self.size l.self.heads l.found l.i
