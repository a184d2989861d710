-- The promise of `process_frames` determines its answer and what is left in the lent rows: two outcomes that satisfy it are equal. Assumes nothing.
use Rattle.std.proofs.Common.{◌≡◌, ℕ, List}
use Rattle.base.proofs.Cases.{determined}
use Rattle.session.specs.declared.Counters.{Counters}
use Rattle.assembler.specs.declared.Pool.{Pool}
use Rattle.batch.specs.declared.Batch.{Batch}
use Rattle.batch.specs.Rows.{Batches}
use Rattle.batch.proofs.Promised.{answer_is}

pub process_frames_unique : (list times pgns sources bytes : List ℕ) (pool : Pool) (counters : Counters) (kinds lengths arena : List ℕ) (r s : Batch) (kinds₁ lengths₁ arena₁ kinds₂ lengths₂ arena₂ : List ℕ)
    → Batches list times pgns sources bytes pool counters kinds lengths arena r kinds₁ lengths₁ arena₁
    → Batches list times pgns sources bytes pool counters kinds lengths arena s kinds₂ lengths₂ arena₂
    → (r ≡ s) × (kinds₁ ≡ kinds₂) × (lengths₁ ≡ lengths₂) × (arena₁ ≡ arena₂)
process_frames_unique list times pgns sources bytes pool counters kinds lengths arena r s kinds₁ lengths₁ arena₁ kinds₂ lengths₂ arena₂ p q =
    let one = p.leaves_these in
    let two = q.leaves_these in
    (determined (answer_is one) (answer_is two), determined one.told two.told, determined one.measured two.measured, determined one.delivered two.delivered)
