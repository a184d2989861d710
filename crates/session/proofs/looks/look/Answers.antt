-- `looks::look` meets its contract: what the tests gave is put together by one law. Assumes nothing.
use mathlib.Core.Path.{◌≡◌, ◌∙◌}
use Rattle.base.specs.Pick.{pick}
use Rattle.session.proofs.SearchLaws.{either_yes, either_no, look_is}
use Rattle.session.proofs.looks.look.Goals.{then-keyed, else-keyed, then-keyed-silent, else-keyed-silent, then-is_own, else-is_own, then-vacant, else-vacant}
use Rattle.session.proofs.looks.look.Goals as goal

pub returns : goal.returns
returns c =
    let key : c.if-keyed.key ≡ pick c.has_key-keyed.result c.args.i c.args.s.key = elim c.if-keyed.branch [ then-keyed w ↦ w.key-is ∙ either_yes _ _ _ w.if-keyed.true | else-keyed w ↦ w.key-is ∙ either_no _ _ _ w.if-keyed.false ] in
    let live : c.if-keyed-silent.live ≡ pick _ c.args.i c.args.s.live = elim c.if-keyed-silent.branch [ then-keyed-silent w ↦ w.live-is ∙ either_yes _ _ _ w.if-keyed-silent.true | else-keyed-silent w ↦ w.live-is ∙ either_no _ _ _ w.if-keyed-silent.false ] in
    let own : c.if-is_own.own ≡ pick _ c.args.i c.args.s.own = elim c.if-is_own.branch [ then-is_own w ↦ w.own-is ∙ either_yes _ _ _ w.if-is_own.true | else-is_own w ↦ w.own-is ∙ either_no _ _ _ w.if-is_own.false ] in
    let free : c.if-vacant.free ≡ pick _ c.args.i c.args.s.free = elim c.if-vacant.branch [ then-vacant w ↦ w.free-is ∙ either_yes _ _ _ w.if-vacant.true | else-vacant w ↦ w.free-is ∙ either_no _ _ _ w.if-vacant.false ] in
    look_is _ _ _ _ _ _ _ _ _ _ _ _ _ c.is_silent-silent.ensures c.has_key-keyed.ensures c.is_impossible.ensures key live own free
