-- Two outcomes that satisfy a call's contract are equal. Assumes nothing.
use Prim.Native.Nat.{ℕ}
use mathlib.Core.Path.{◌≡◌, refl}
use mathlib.Core.Bool.{Bool}
use Rattle.std.proofs.Common.{Result as ResultOf, Ok, Err}
use mathlib.Core.List.{List}
use Rattle.base.proofs.Cases.{determined, determined_by}
use Rattle.base.specs.Answer.{Answer, gives, refuses}
use Rattle.can_id.specs.declared.CanIdReadError.{CanIdReadError}
use Rattle.can_id.specs.declared.CanIdReadError.TheVariants.{TooWide}
use Rattle.session.specs.declared.Counters.{Counters}
use Rattle.assembler.specs.Slots.{impossible}
use Rattle.assembler.specs.View.{slots_of}
use Rattle.session.specs.declared.Found.{Found}
use Rattle.session.specs.declared.Heard.{Heard}
use Rattle.session.specs.declared.Mode.{Mode}
use Rattle.session.specs.declared.Mode.TheVariants.{AsOriginal}
use Rattle.session.specs.declared.PoolKind.{PoolKind}
use Rattle.session.specs.declared.PoolKind.TheVariants.{Original}
use Rattle.assembler.specs.declared.Arrival.{Arrival}
use Rattle.assembler.specs.declared.ArrivalById.{ArrivalById}
use Rattle.assembler.specs.Arrivals.{ArrivalByIdWithLength}
use Rattle.assembler.specs.Arrivals.{ArrivalWithLength}
use Rattle.assembler.specs.declared.ImpossiblePool.{ImpossiblePool}
use Rattle.assembler.specs.declared.Pool.{Pool}
use Rattle.assembler.specs.declared.Processed.{Processed}
use Rattle.assembler.specs.declared.Received.{Received}
use Rattle.assembler.specs.Making.{fresh_pool, MakesPoolOf, MakesPoolIn, MakesPool}
use Rattle.assembler.specs.Arrivals.{of_heard, heard_of, heard_with_length, heard_by_id, heard_by_id_with_length}
use Rattle.session.specs.inner.Search.{found_in}
use Rattle.assembler.specs.Promises.{rules_of, at_original, at_addressed, ReceivesHeard, ProcessesHeard, Receives, ReceivesWithLength, ReceivesById, ReceivesByIdWithLength, Processes, ProcessesWithLength, ProcessesById, ProcessesByIdWithLength}
use Rattle.assembler.proofs.Promised.{made_by, received_by, processed_by}

-- ---- making a pool

pub with_kind_unique : (size : ℕ) (mode : Mode) (kind : PoolKind) (r s : ResultOf Pool ImpossiblePool) → MakesPoolOf kind mode size r → MakesPoolOf kind mode size s → r ≡ s
with_kind_unique size mode kind r s p q = determined (made_by kind mode size p) (made_by kind mode size q)

pub with_mode_unique : (size : ℕ) (mode : Mode) (r s : ResultOf Pool ImpossiblePool) → MakesPoolIn mode size r → MakesPoolIn mode size s → r ≡ s
with_mode_unique size mode r s = with_kind_unique size mode Original r s

pub new_unique : (size : ℕ) (r s : ResultOf Pool ImpossiblePool) → MakesPool size r → MakesPool size s → r ≡ s
new_unique size r s = with_mode_unique size AsOriginal r s

pub default_unique : (r s : Pool) → r ≡ fresh_pool 4 → s ≡ fresh_pool 4 → r ≡ s
default_unique r s = determined

-- ---- the receive call

module _ (pgns : List ℕ) (pool : Pool) (counters : Counters) where
  -- `receive`, at any form: by the entry and what the form hears
  pub heard_unique : (a : Answer Heard) (r s : Received) → ReceivesHeard pgns a pool counters r → ReceivesHeard pgns a pool counters s → r ≡ s
  heard_unique a r s p q = determined (received_by pgns a pool counters p) (received_by pgns a pool counters q)

  -- `process_frame`, likewise: the answer, and the lent counters after the call
  pub heard_lent_unique : (a : Answer Heard) (r s : Processed) (j k : Counters) → ProcessesHeard pgns a pool counters r j → ProcessesHeard pgns a pool counters s k → (r ≡ s) × (j ≡ k)
  heard_lent_unique a r s j k p q =
      let one = processed_by pgns a pool counters p in
      let two = processed_by pgns a pool counters q in
      (determined one.0 two.0, determined one.1 two.1)

  -- and at each form, by its definition (proofs/Forms): `receive` of an `Arrival`
  pub receive_unique : (a : Arrival) (r s : Received) → Receives pgns a pool counters r → Receives pgns a pool counters s → r ≡ s
  receive_unique a = heard_unique (at_original pool (heard_of a))

  -- of an `ArrivalWithLength`
  pub receive_with_length_unique : (x : ArrivalWithLength) (r s : Received) → ReceivesWithLength pgns x pool counters r → ReceivesWithLength pgns x pool counters s → r ≡ s
  receive_with_length_unique x = heard_unique (at_original pool (heard_with_length x))

  -- of an `ArrivalById`
  pub receive_by_id_unique : (a : ArrivalById) (r s : Received) → ReceivesById pgns a pool counters r → ReceivesById pgns a pool counters s → r ≡ s
  receive_by_id_unique a = heard_unique (at_addressed pool (heard_by_id a))

  -- of an `ArrivalByIdWithLength`
  pub receive_by_id_with_length_unique : (x : ArrivalByIdWithLength) (r s : Received) → ReceivesByIdWithLength pgns x pool counters r → ReceivesByIdWithLength pgns x pool counters s → r ≡ s
  receive_by_id_with_length_unique x = heard_unique (at_addressed pool (heard_by_id_with_length x))

  -- `process_frame`, of each
  pub process_frame_unique : (a : Arrival) (r s : Processed) (j k : Counters) → Processes pgns a pool counters r j → Processes pgns a pool counters s k → (r ≡ s) × (j ≡ k)
  process_frame_unique a = heard_lent_unique (at_original pool (heard_of a))

  pub process_frame_with_length_unique : (x : ArrivalWithLength) (r s : Processed) (j k : Counters) → ProcessesWithLength pgns x pool counters r j → ProcessesWithLength pgns x pool counters s k
      → (r ≡ s) × (j ≡ k)
  process_frame_with_length_unique x = heard_lent_unique (at_original pool (heard_with_length x))

  pub process_frame_by_id_unique : (a : ArrivalById) (r s : Processed) (j k : Counters) → ProcessesById pgns a pool counters r j → ProcessesById pgns a pool counters s k → (r ≡ s) × (j ≡ k)
  process_frame_by_id_unique a = heard_lent_unique (at_addressed pool (heard_by_id a))

  pub process_frame_by_id_with_length_unique : (x : ArrivalByIdWithLength) (r s : Processed) (j k : Counters) → ProcessesByIdWithLength pgns x pool counters r j
      → ProcessesByIdWithLength pgns x pool counters s k → (r ≡ s) × (j ≡ k)
  process_frame_by_id_with_length_unique x = heard_lent_unique (at_addressed pool (heard_by_id_with_length x))

-- ---- `Pool::is_impossible`, and the walk below it
pub is_impossible_unique : (p : Pool) {r s : Bool} → r ≡ impossible (rules_of p) (slots_of p) → s ≡ impossible (rules_of p) (slots_of p) → r ≡ s
is_impossible_unique p = determined

pub found_unique : (p : Pool) (f : Heard) {r s : Found} → r ≡ found_in (rules_of p) f p.size p.heads → s ≡ found_in (rules_of p) f p.size p.heads → r ≡ s
found_unique p f = determined

-- ---- what a form of the call hears

back_heard : Answer Heard → ResultOf Heard CanIdReadError
back_heard (gives f) = Ok f
back_heard (refuses n l) = Err TooWide

kept_heard : (r : ResultOf Heard CanIdReadError) → back_heard (of_heard r) ≡ r
unfolding back_heard
kept_heard (Ok f) = refl
kept_heard (Err TooWide) = refl

pub arrive_heard_unique : (a : Answer Heard) (r s : ResultOf Heard CanIdReadError) → of_heard r ≡ a → of_heard s ≡ a → r ≡ s
arrive_heard_unique a r s = determined_by of_heard back_heard kept_heard
