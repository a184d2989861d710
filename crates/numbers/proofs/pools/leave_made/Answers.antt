-- `leave_made` meets its contract: case by case. Assumes nothing.
use mathlib.Core.Path.{refl, ◌∙◌}
use Rattle.session.specs.Kinds.{kind_number}
use Rattle.assembler.specs.Making.{of_made, made_pool}
use Rattle.numbers.proofs.pools.leave_made.Goals as goal

pub returns-in-Ok : goal.returns-in-Ok
unfolding of_made made_pool
returns-in-Ok c = rw c.in-Ok.is (record { told = refl; kept = c.fresh_heads.ensures; stored = refl; sized = c.leave_form.ensures.0; moded = c.leave_form.ensures.1; of_kind = c.leave_form.ensures.2 })

pub returns-in-Err : goal.returns-in-Err
unfolding of_made made_pool kind_number
returns-in-Err c = rw c.in-Err.is (record { told = c.from.ensures ∙ c.number.ensures; kept = refl; stored = refl; sized = c.leave_form-in-Err.ensures.0; moded = c.leave_form-in-Err.ensures.1; of_kind = c.leave_form-in-Err.ensures.2 })
