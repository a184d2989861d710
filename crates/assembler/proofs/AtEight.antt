-- The eight-byte entry is the entry with a length at 8, and at every length above it, by PGN and source or by the identifier: they hear the same frame, so their
-- promises are the same.
-- Assumes nothing.
use Prim.Native.Nat.{ℕ, zero, suc, ◌≤◌, min}
use mathlib.Core.Path.{◌≡◌, refl, sym, ap, subst}
use mathlib.Core.List.{List, [], ◌∷◌}
use lib.ListN.{length}
use lib.Seq.{take_all}
use native.Mathlib.Omega.{arith}
use Rattle.base.specs.Answer.{Answer, gives, refuses}
use Rattle.base.specs.Lists.{fill}
use Rattle.can_id.specs.declared.CanIdParts.{CanIdParts}
use Rattle.can_id.specs.Read.{read_of}
use Rattle.fast_packet.specs.FastPacket.{filled_from}
use Rattle.session.specs.declared.Counters.{Counters}
use Rattle.session.specs.declared.Heard.{Heard}
use Rattle.assembler.specs.declared.Arrival.{Arrival}
use Rattle.assembler.specs.declared.ArrivalById.{ArrivalById}
use Rattle.assembler.specs.Arrivals.{ArrivalByIdWithLength}
use Rattle.assembler.specs.Arrivals.{ArrivalWithLength}
use Rattle.assembler.specs.declared.Pool.{Pool}
use Rattle.assembler.specs.declared.Processed.{Processed}
use Rattle.assembler.specs.declared.Received.{Received}
use Rattle.assembler.specs.Arrivals.{heard_of, cut_to, heard_with_length, heard_from, heard_by_id, all_cut_to, heard_by_id_with_length}
use Rattle.assembler.specs.Promises.{at_original, at_addressed, ReceivesHeard, ProcessesHeard, Receives, ReceivesWithLength, ReceivesById, ReceivesByIdWithLength, Processes, ProcessesWithLength, ProcessesById, ProcessesByIdWithLength}

fill_all : (n : ℕ) (bytes : List ℕ) → length bytes ≡ n → fill n bytes ≡ bytes
unfolding fill
fill_all zero [] e = refl
fill_all zero (b ∷ bytes) e = absurd (omega (arith, e))
fill_all (suc n) [] e = absurd (omega (arith, e))
fill_all (suc n) (b ∷ bytes) e = ap (◌∷◌ b) (fill_all n bytes (omega (arith, e)))

-- a frame of which all eight bytes were sent, cut to eight or more
module _ (n : ℕ) (all : 8 ≤ n) where
  cut_none : (f : Heard) → length f.«data» ≡ 8 → f.length ≡ 8 → cut_to n f ≡ f
  unfolding cut_to filled_from
  cut_none f eight whole =
      let most : min n 8 ≡ 8 = omega (arith, all) in
      rw (most, take_all 8 f.«data» (omega (arith, eight)), fill_all 8 f.«data» eight, ← whole)

  read_none : (a : ArrivalById) → length a.«data» ≡ 8 → (read : Answer CanIdParts) → all_cut_to n (heard_from a read) ≡ heard_from a read
  unfolding all_cut_to heard_from
  read_none a eight (gives parts) = ap gives (cut_none _ eight refl)
  read_none a eight (refuses k carried) = refl

module _ (a : Arrival) (eight : length a.«data» ≡ 8) (n : ℕ) (all : 8 ≤ n) where
  abbrev sent : ArrivalWithLength
  sent = record { arrival = a; length = n }

  pub heard_eight : heard_with_length sent ≡ heard_of a
  unfolding heard_with_length cut_to heard_of filled_from
  heard_eight =
      let most : min n 8 ≡ 8 = omega (arith, all) in
      rw (most, take_all 8 a.«data» (omega (arith, eight)), fill_all 8 a.«data» eight)

  module _ (pgns : List ℕ) (pool : Pool) (counters : Counters) where
    -- `receive` of an `ArrivalWithLength` promises what `receive` of an `Arrival` does, and the other way round
    pub received_at_eight : (r : Received) → ReceivesWithLength pgns sent pool counters r → Receives pgns a pool counters r
    received_at_eight r h = subst (λ (f : Heard). ReceivesHeard pgns (at_original pool f) pool counters r) heard_eight h

    pub received_as_eight : (r : Received) → Receives pgns a pool counters r → ReceivesWithLength pgns sent pool counters r
    received_as_eight r h = subst (λ (f : Heard). ReceivesHeard pgns (at_original pool f) pool counters r) (sym heard_eight) h

    -- and so does `process_frame`
    pub processed_at_eight : (r : Processed) (after : Counters) → ProcessesWithLength pgns sent pool counters r after → Processes pgns a pool counters r after
    processed_at_eight r after h = subst (λ (f : Heard). ProcessesHeard pgns (at_original pool f) pool counters r after) heard_eight h

    pub processed_as_eight : (r : Processed) (after : Counters) → Processes pgns a pool counters r after → ProcessesWithLength pgns sent pool counters r after
    processed_as_eight r after h = subst (λ (f : Heard). ProcessesHeard pgns (at_original pool f) pool counters r after) (sym heard_eight) h

-- by the identifier
module _ (a : ArrivalById) (eight : length a.«data» ≡ 8) (n : ℕ) (all : 8 ≤ n) where
  abbrev sent_by_id : ArrivalByIdWithLength
  sent_by_id = record { arrival = a; length = n }

  pub heard_by_id_eight : heard_by_id_with_length sent_by_id ≡ heard_by_id a
  unfolding heard_by_id_with_length heard_by_id
  heard_by_id_eight = read_none n all a eight (read_of a.id.0)

  module _ (pgns : List ℕ) (pool : Pool) (counters : Counters) where
    pub received_by_id_at_eight : (r : Received) → ReceivesByIdWithLength pgns sent_by_id pool counters r → ReceivesById pgns a pool counters r
    received_by_id_at_eight r h = subst (λ (x : Answer Heard). ReceivesHeard pgns (at_addressed pool x) pool counters r) heard_by_id_eight h

    pub received_by_id_as_eight : (r : Received) → ReceivesById pgns a pool counters r → ReceivesByIdWithLength pgns sent_by_id pool counters r
    received_by_id_as_eight r h = subst (λ (x : Answer Heard). ReceivesHeard pgns (at_addressed pool x) pool counters r) (sym heard_by_id_eight) h

    pub processed_by_id_at_eight : (r : Processed) (after : Counters) → ProcessesByIdWithLength pgns sent_by_id pool counters r after → ProcessesById pgns a pool counters r after
    processed_by_id_at_eight r after h = subst (λ (x : Answer Heard). ProcessesHeard pgns (at_addressed pool x) pool counters r after) heard_by_id_eight h

    pub processed_by_id_as_eight : (r : Processed) (after : Counters) → ProcessesById pgns a pool counters r after → ProcessesByIdWithLength pgns sent_by_id pool counters r after
    processed_by_id_as_eight r after h = subst (λ (x : Answer Heard). ProcessesHeard pgns (at_addressed pool x) pool counters r after) (sym heard_by_id_eight) h
