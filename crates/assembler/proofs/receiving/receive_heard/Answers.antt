-- `receiving::receive_heard` meets its contract: the walk sees what the searches find, and the last lines carry out the plan, which is the step. Assumes nothing.
use borrow.Author.Rules.{rules}
use mathlib.Core.Path.{◌≡◌}
use lib.ListN.{length}
use native.Mathlib.Omega.{arith}
use Rattle.session.specs.Rules.{rules_by}
use Rattle.assembler.specs.Promises.{rules_of}
use Rattle.assembler.proofs.Copies.{length_unmap}
use Rattle.assembler.proofs.Views.{Whole}
use Rattle.session.proofs.SearchLaws.{same_limit}
use Rattle.assembler.proofs.Carries.{planned, answered, slot_long, payload_long}
use Rattle.assembler.proofs.receiving.receive_heard.Goals as goal

pub overflow_add-start : goal.overflow_add-start
unfolding rules_of rules_by
overflow_add-start c = let a = c.args in
    let whole : Whole a.pool.now = record { heads = search (rules, length_unmap); bytes = search rules } in
    let eight : length a.heard.«data» ≡ 8 = search rules in
    let fits = (planned (rules_by a.pool.now.kind a.pool.now.mode) (same_limit a.pool.now.kind a.pool.now.mode) _ a.heard a.pool.now a.counters.now whole eight _ _ _ _ _ _ c.found-seen.ensures c.is_listed-listed.ensures c.place_for-place.ensures c.within_limit-g.ensures.0 c.decide-plan.ensures).fits in
    let low = c.within_limit-g.ensures.1 in
    omega (arith, fits.room, low)

pub copy-requires : goal.copy-requires
unfolding rules_of rules_by
copy-requires c = let a = c.args in
    let whole : Whole a.pool.now = record { heads = search (rules, length_unmap); bytes = search rules } in
    let eight : length a.heard.«data» ≡ 8 = search rules in
    let fits = (planned (rules_by a.pool.now.kind a.pool.now.mode) (same_limit a.pool.now.kind a.pool.now.mode) _ a.heard a.pool.now a.counters.now whole eight _ _ _ _ _ _ c.found-seen.ensures c.is_listed-listed.ensures c.place_for-place.ensures c.within_limit-g.ensures.0 c.decide-plan.ensures).fits in
    let low = c.within_limit-g.ensures.1 in
    (omega (arith, fits.room, low, whole.bytes), omega (arith, fits.there, eight))

pub copy-requires-2 : goal.copy-requires-2
unfolding rules_of rules_by
copy-requires-2 c = let a = c.args in
    let whole : Whole a.pool.now = record { heads = search (rules, length_unmap); bytes = search rules } in
    let eight : length a.heard.«data» ≡ 8 = search rules in
    let fits = (planned (rules_by a.pool.now.kind a.pool.now.mode) (same_limit a.pool.now.kind a.pool.now.mode) _ a.heard a.pool.now a.counters.now whole eight _ _ _ _ _ _ c.found-seen.ensures c.is_listed-listed.ensures c.place_for-place.ensures c.within_limit-g.ensures.0 c.decide-plan.ensures).fits in
    let low = c.within_limit-g.ensures.1 in
    let long = slot_long _ a.heard a.pool.now whole eight _ _ low fits c.copy.ensures in
    (omega (arith, fits.whole), omega (arith, fits.whole, low, long))

pub copy-requires-3 : goal.copy-requires-3
unfolding rules_of rules_by
copy-requires-3 c = let a = c.args in
    let whole : Whole a.pool.now = record { heads = search (rules, length_unmap); bytes = search rules } in
    let eight : length a.heard.«data» ≡ 8 = search rules in
    let fits = (planned (rules_by a.pool.now.kind a.pool.now.mode) (same_limit a.pool.now.kind a.pool.now.mode) _ a.heard a.pool.now a.counters.now whole eight _ _ _ _ _ _ c.found-seen.ensures c.is_listed-listed.ensures c.place_for-place.ensures c.within_limit-g.ensures.0 c.decide-plan.ensures).fits in
    let low = c.within_limit-g.ensures.1 in
    let long = slot_long _ a.heard a.pool.now whole eight _ _ low fits c.copy.ensures in
    let message = payload_long _ _ _ _ low fits long c.copy-2.ensures in
    (omega (arith, fits.short, message), omega (arith, fits.short, eight))

pub overflow_add-result : goal.overflow_add-result
unfolding rules_of rules_by
overflow_add-result c = let a = c.args in
    let whole : Whole a.pool.now = record { heads = search (rules, length_unmap); bytes = search rules } in
    let eight : length a.heard.«data» ≡ 8 = search rules in
    let fits = (planned (rules_by a.pool.now.kind a.pool.now.mode) (same_limit a.pool.now.kind a.pool.now.mode) _ a.heard a.pool.now a.counters.now whole eight _ _ _ _ _ _ c.found-seen.ensures c.is_listed-listed.ensures c.place_for-place.ensures c.within_limit-g.ensures.0 c.decide-plan.ensures).fits in
    let low = c.within_limit-g.ensures.1 in
    omega (arith, fits.whole, fits.short)

pub returns : goal.returns
unfolding rules_of rules_by
returns c = let a = c.args in
    let whole : Whole a.pool.now = record { heads = search (rules, length_unmap); bytes = search rules } in
    let eight : length a.heard.«data» ≡ 8 = search rules in
    answered (rules_by a.pool.now.kind a.pool.now.mode) (same_limit a.pool.now.kind a.pool.now.mode) _ a.heard a.pool.now a.counters.now whole eight _ _ _ _ _ _ c.found-seen.ensures c.is_listed-listed.ensures c.place_for-place.ensures c.within_limit-g.ensures.0 c.decide-plan.ensures _ _ _ _ c.copy.ensures c.count.ensures c.copy-2.ensures c.copy-3.ensures
