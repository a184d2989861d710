-- `Mirror::seek` meets its contract: each way out is a case of the definition. Assumes nothing.
use Rattle.std.proofs.Common.{refl}
use Rattle.batch.proofs.SearchLaws.{sought_next, sought_quiet, sought_first}
use Rattle.batch.proofs.WalkLaws.{low_within}
use Rattle.batch.specs.inner.Mirror.{quiet}
use Rattle.session.specs.Frames.{size_of}
use Rattle.batch.proofs.mirror.Mirror.seek.Goals as goal

pub returns-then-data-ne0 : goal.returns-then-data-ne0
returns-then-data-ne0 c = let live = c.first_live.ensures in
    (sought_next _ _ _ _ _ _ _ _ refl _ c.if-data-ne0.true (rw c.key_of_frame-key.ensures.0 at live.0), low_within _ _ c.args.self.now.small live.1, c.key_of_frame-key.ensures.1)

pub returns-then-announced : goal.returns-then-announced
unfolding quiet size_of
returns-then-announced c =
    (sought_quiet _ _ _ _ _ _ _ _ refl c.if-data-ne0.false c.if-announced.true, tt, c.key_of_frame-key.ensures.1)

pub returns : goal.returns
unfolding quiet size_of
returns c = let chosen = c.choose.ensures in (
  sought_first _ _ _ _ _ _ _ _ refl c.if-data-ne0.false _ c.if-announced.false (rw c.key_of_frame-key.ensures.0 at chosen.0),
  low_within _ _ c.args.self.now.small chosen.1,
  c.key_of_frame-key.ensures.1,
)
