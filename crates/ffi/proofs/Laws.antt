-- What an entry passes on: from what its calls say to what it says. Assumes nothing.
use Prim.Native.Nat.{ℕ}
use mathlib.Core.List.{List, [], ◌∷◌}
use mathlib.Core.Path.{◌≡◌, refl, sym, ap, subst, ◌∙◌}
use Rattle.base.specs.Answer.{Answer, gives}
use Rattle.session.specs.declared.Heard.{Heard}
use Rattle.session.specs.declared.Counters.{Counters}
use Rattle.session.specs.declared.PoolKind.{PoolKind}
use Rattle.session.specs.declared.PoolKind.TheVariants.{Original, Addressed}
use Rattle.assembler.specs.Making.{fresh_pool, fresh_pool_in, of_made}
use Rattle.assembler.specs.Arrivals.{ArrivalByIdWithLength}
use Rattle.assembler.specs.Arrivals.{ArrivalWithLength}
use Rattle.assembler.specs.Arrivals.{heard_of, heard_by_id, all_cut_to}
use Rattle.assembler.specs.Promises.{rules_of, entered, answer_to, ReceivesHeard, ProcessesHeard}
use Rattle.assembler.proofs.Promised.{received_by as equation}
use Rattle.assembler.specs.declared.Received.{Received}
use Rattle.assembler.specs.declared.Processed.{Processed}
use Rattle.assembler.specs.inner.Forms.{received_of}
use Rattle.assembler.proofs.Forms.{frame_cut, by_id_cut}
use Rattle.ffi.specs.inner.Calls.{HeardLeft}
use Rattle.std.proofs.Common.{Ok}
use Rattle.assembler.specs.declared.Pool.{Pool}
use Rattle.batch.specs.Rows.{Rows, bytes_in, batch_of, BatchLeft, taken_in, Batches}
use Rattle.batch.proofs.Promised.{batched_by}
use Rattle.batch.specs.declared.Batch.{Batch}
use Rattle.numbers.specs.Pool.{pool_from, counters_from, CallMemory, CallLeft, PoolMemory, PoolLeft}
use Rattle.ffi.specs.Calls.{pool_in, received_in, FrameWithLengthLeft, FrameByIdWithLengthLeft}
use Rattle.ffi.specs.Batches.{BatchMemory, BatchMemoryLeft, batch_in, FramesLeft}
use Rattle.ffi.specs.inner.Batches.{PoolAfter}

-- ---- what an answer leaves, by what the answer is
pub left_by : {r s : Received} {before after : CallMemory} {code : ℕ} → CallLeft r before code after → r ≡ s → CallLeft s before code after
left_by {before = before} {after} {code} h e = subst (λ (x : Received). CallLeft x before code after) e h

pub made_by : {a b : Answer ℕ} {p q : Pool} {before after : PoolMemory} {code : ℕ} → PoolLeft a p before code after → a ≡ b → p ≡ q → PoolLeft b q before code after
made_by {b = b} {p} {before = before} {after} {code} h e f =
    subst (λ (x : Pool). PoolLeft b x before code after) f (subst (λ (x : Answer ℕ). PoolLeft x p before code after) e h)

pub default_by : {p : Pool} → p ≡ fresh_pool 4 → of_made (Ok p) ≡ gives 4
unfolding of_made fresh_pool fresh_pool_in
default_by e = ap (λ (p : Pool). gives p.size) e

-- ---- the receive call on a pool and counters from numbers
module _ (size mode kind : ℕ) (pgns : List ℕ) (before : CallMemory) {p : Pool} {k : Counters} {r : Received} (e : p ≡ pool_from size mode kind before.heads before.bytes) (f : k ≡ counters_from before.counters) where
  pub entered_by : (entry : PoolKind) (a : Answer Heard) → ReceivesHeard pgns (entered entry p a) p k r → r ≡ received_in (pool_in size mode kind before) pgns (entered entry (pool_in size mode kind before) a) before
  unfolding received_in pool_in
  entered_by entry a q =
      equation pgns (entered entry p a) p k q
      ∙ ap (λ (x : Pool). answer_to pgns (entered entry x a) x k) e
      ∙ ap (λ (x : Counters). answer_to pgns (entered entry (pool_from size mode kind before.heads before.bytes) a) (pool_from size mode kind before.heads before.bytes) x) f

-- and with the counters lent
module _ (size mode kind : ℕ) (pgns : List ℕ) (before : CallMemory) {p : Pool} {k after : Counters} {r : Processed} (e : p ≡ pool_from size mode kind before.heads before.bytes) (f : k ≡ counters_from before.counters) where
  pub processed_by : (entry : PoolKind) (a : Answer Heard) → ProcessesHeard pgns (entered entry p a) p k r after → received_of r after ≡ received_in (pool_in size mode kind before) pgns (entered entry (pool_in size mode kind before) a) before
  processed_by entry a q = entered_by size mode kind pgns before e f entry a (record { answer = q.answer; counted = q.counted })

-- of a frame with a length
module _ (size mode kind : ℕ) (pgns : List ℕ) {before after : CallMemory} {code : ℕ} where
  pub cut_left : (x : ArrivalWithLength) → HeardLeft size mode kind pgns Original (all_cut_to x.length (gives (heard_of x.arrival))) before code after → FrameWithLengthLeft size mode kind pgns x before code after
  cut_left x h = rw (frame_cut x) at h

  pub cut_left_by_id : (x : ArrivalByIdWithLength) → HeardLeft size mode kind pgns Addressed (all_cut_to x.length (heard_by_id x.arrival)) before code after → FrameByIdWithLengthLeft size mode kind pgns x before code after
  cut_left_by_id x h = rw (by_id_cut x) at h

-- ---- a batch on a pool and counters from numbers, and what it leaves
module _ (size mode kind : ℕ) (pgns : List ℕ) (rows : Rows) (before : BatchMemory) {p : Pool} {k : Counters} (e : p ≡ pool_from size mode kind before.heads before.bytes) (f : k ≡ counters_from before.counters) where
  batch_same : batch_of (rules_of p) pgns rows p k before.kinds before.lengths before.arena ≡ batch_in size mode kind pgns rows before
  unfolding batch_in
  batch_same =
      ap (λ (x : Pool). batch_of (rules_of x) pgns rows x k before.kinds before.lengths before.arena) e
      ∙ ap (λ (x : Counters). batch_of (rules_of (pool_from size mode kind before.heads before.bytes)) pgns rows (pool_from size mode kind before.heads before.bytes) x before.kinds before.lengths before.arena) f

  pub batch_left : {r : Batch} {heads bytes counters kinds lengths arena counts : List ℕ} {code : ℕ}
      → Batches pgns rows.times rows.pgns rows.sources rows.bytes p k before.kinds before.lengths before.arena r kinds lengths arena
      → PoolAfter r before.heads code heads bytes counters counts
      → FramesLeft size mode kind pgns rows before code (record { heads = heads; bytes = bytes; counters = counters; kinds = kinds; lengths = lengths; arena = arena; counts = counts })
  batch_left {r} {heads} {bytes} {counters} {kinds} {lengths} {arena} {counts} {code} g h =
      let left = g.leaves_these in
      subst
      (λ (l : BatchLeft).
      BatchMemoryLeft l before code (record { heads = heads; bytes = bytes; counters = counters; kinds = kinds; lengths = lengths; arena = arena; counts = counts }))
      (batched_by g ∙ batch_same)
      (record {
        told = h.told;
        kept = h.kept;
        stored = h.stored;
        counted = h.counted;
        answered = refl;
        measured = refl;
        delivered = refl;
        taken = h.taken ∙ ap (λ (n : ℕ). n ∷ bytes_in r.result ∷ []) (left.taken ∙ ap taken_in (sym left.answer));
      })
