-- `ways::missed` meets its contract: each way out is a case of the definition. Assumes nothing.
use Rattle.std.proofs.Common.{refl}
use Rattle.session.specs.Frames.{bad_size, size_of}
use Rattle.batch.proofs.WayLaws.{miss_next, miss_bad, miss_full}
use Rattle.batch.proofs.ways.missed.Goals as goal

pub returns-then-data-ne0 : goal.returns-then-data-ne0
returns-then-data-ne0 c = miss_next _ _ refl c.if-data-ne0.true

pub returns-then-size : goal.returns-then-size
unfolding bad_size size_of
returns-then-size c = miss_bad _ _ refl c.if-data-ne0.false (rw c.from-size.ensures at c.if-size.true)

pub returns : goal.returns
unfolding bad_size size_of
returns c = miss_full _ _ refl c.if-data-ne0.false (rw c.from-size.ensures at c.if-size.false)
