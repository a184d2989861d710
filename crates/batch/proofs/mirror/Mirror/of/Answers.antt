-- `Mirror::of` meets its contract: after i turns the rows show i heads. Assumes nothing.
use Rattle.std.proofs.Common.{◌≡◌, refl, ◌∙◌, length, arith, rules}
use Rattle.session.specs.Rules.{pool_limit}
use Rattle.assembler.proofs.Copies.{length_unmap}
use Rattle.batch.proofs.Mirrors.{mirrors_none, mirrors_turn}
use Rattle.batch.proofs.mirror.Mirror.of.Goals as goal

pub loop-i-init : goal.loop-i-init
loop-i-init c = (mirrors_none _ _ _ _ refl refl refl, refl)

pub loop-i-preserved : goal.loop-i-preserved
loop-i-preserved c = let inv = c.loop-i.invariant in
    let shown = c.show.ensures in
    let long : length c.args.heads ≡ pool_limit = search (rules, length_unmap) in
    (rw (shown.0, shown.1, shown.2) (mirrors_turn _ _ _ _ _ c.loop-i-test.true _ _ _ _ long inv.0 (record { key = refl; owner = refl; last = refl; range = shown.4 })), shown.3 ∙ inv.1)

pub returns : goal.returns
returns c = let full : c.loop-i.i ≡ pool_limit = omega (arith, c.loop-i-test.false, c.loop-i.auto.i-end) in
    (rw full at c.loop-i.invariant.0, c.loop-i.invariant.1)
