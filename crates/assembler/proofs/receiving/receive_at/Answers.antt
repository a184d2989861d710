-- `receiving::receive_at` meets its contract: refused at its entry, or the steps. Assumes nothing.
use Rattle.assembler.proofs.Entries.{at_other, at_own, told_refused}
use Rattle.assembler.proofs.receiving.receive_at.Goals as goal

pub returns-then-ne : goal.returns-then-ne
returns-then-ne c = at_other _ _ _ _ _ _ c.ne.ensures _ c.if-ne.true (told_refused c.refused.ensures)

pub returns : goal.returns
returns c = at_own _ _ _ _ _ _ c.ne.ensures _ c.if-ne.false c.receive_heard.ensures
