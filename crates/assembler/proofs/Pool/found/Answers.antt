-- `Pool::found` meets its contract: what is seen from place i on. Assumes nothing.
use Rattle.std.proofs.Common.{◌≡◌, ◌≤◌, length, sym, ap, ◌∙◌, arith, rules, le-ltb}
use Rattle.base.specs.Pick.{pick}
use Rattle.session.specs.Rules.{pool_limit}
use Rattle.session.specs.inner.Search.{nothing_found}
use Rattle.assembler.specs.Promises.{rules_of}
use Rattle.assembler.proofs.Copies.{length_unmap}
use Rattle.session.proofs.Walks.{Walk, walk_start, walk_turn, walk_done}
use Rattle.assembler.proofs.Pool.found.Goals as goal

pub loop-i-init : goal.loop-i-init
unfolding pick
loop-i-init c = let p = c.args.self.now in
    let long : length p.heads ≡ pool_limit = search (rules, length_unmap) in
    let low : p.size ≤ pool_limit = omega arith in
    let small = le-ltb pool_limit p.size low in
    let walk : Walk (rules_of p) c.args.heard p.size p.heads c.nothing_found-found.result p.size =
    walk_start (rules_of p) c.args.heard p.size p.heads long _ _ (c.nothing_found-found.ensures ∙ ap nothing_found (sym small)) (rw small) in
    (low, long, walk)

pub loop-i-preserved : goal.loop-i-preserved
unfolding rules_of
loop-i-preserved c = let inv = c.loop-i.invariant in
    (omega arith, inv.1, walk_turn _ _ _ _ inv.1 _ _ _ _ inv.2 c.loop-i-test.true c.look-found.ensures)

pub returns : goal.returns
returns c = walk_done _ _ _ _ _ _ c.loop-i.invariant.2 c.loop-i-test.false
