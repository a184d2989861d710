-- What the generic calls promise is, at each form of the call, the form's own definition in specs/Promises. Assumes nothing.
use Prim.Native.Nat.{ℕ}
use mathlib.Core.List.{List}
use mathlib.Core.Path.{◌≡◌, refl}
use denote.RattleType.{RattleType}
use mir.Syntax.{Dict}
use Rattle.base.specs.Answer.{gives}
use Rattle.session.specs.declared.Counters.{Counters}
use Rattle.assembler.specs.declared.Arrival.{Arrival}
use Rattle.assembler.specs.declared.ArrivalById.{ArrivalById}
use Rattle.assembler.specs.declared.WithLength.{WithLength}
use Rattle.assembler.specs.declared.Pool.{Pool}
use Rattle.assembler.specs.declared.Processed.{Processed}
use Rattle.assembler.specs.declared.Received.{Received}
use Rattle.assembler.specs.declared.arrivals.Arrive.{Ghosts}
use Rattle.assembler.specs.declared.arrivals.forms.Form as Form
use Rattle.assembler.specs.declared.arrivals.forms.Whole as Whole
use Rattle.assembler.specs.contracts.arrivals.ArrivalArrive.TheImpl as frame
use Rattle.assembler.specs.contracts.arrivals.ArrivalByIdArrive.TheImpl as by_id
use Rattle.assembler.specs.contracts.arrivals.WithLengthArrive.TheImpl as cut
use Rattle.assembler.specs.Arrivals.{heard_of, heard_with_length, heard_by_id, heard_by_id_with_length, all_cut_to, ArrivalWithLength, ArrivalByIdWithLength}
use Rattle.assembler.specs.Promises.{entered, at_original, at_addressed, ReceivesHeard, ProcessesHeard, Receives, ReceivesWithLength, ReceivesById, ReceivesByIdWithLength, Processes, ProcessesWithLength, ProcessesById, ProcessesByIdWithLength}

-- ---- what each form hears, by the entry of its kind

pub frame_heard : (p : Pool) (a : Arrival) → entered frame.ghosts.ENTRY p (frame.ghosts.hears a) ≡ at_original p (heard_of a)
frame_heard p a = refl

pub by_id_heard : (p : Pool) (a : ArrivalById) → entered by_id.ghosts.ENTRY p (by_id.ghosts.hears a) ≡ at_addressed p (heard_by_id a)
by_id_heard p a = refl

-- with a length: what the form without it hears is cut
module _ (A : RattleType) (g : Ghosts A.Denot) (d : Dict) (f : Form.Ghosts A.Denot) (e : Dict) (w : Whole.Ghosts A.Denot) (v : Dict) where
  pub cut_entry : (cut.ghosts A g d f e w v).ENTRY ≡ g.ENTRY
  cut_entry = refl

  pub cut_heard : (x : WithLength A.Denot) → (cut.ghosts A g d f e w v).hears x ≡ all_cut_to x.length (g.hears x.arrival)
  cut_heard x = refl

pub frame_cut : (x : ArrivalWithLength) → all_cut_to x.length (frame.ghosts.hears x.arrival) ≡ gives (heard_with_length x)
unfolding all_cut_to heard_with_length
frame_cut x = refl

pub by_id_cut : (x : ArrivalByIdWithLength) → all_cut_to x.length (by_id.ghosts.hears x.arrival) ≡ heard_by_id_with_length x
unfolding heard_by_id_with_length
by_id_cut x = refl

-- ---- so the calls promise by value

module _ (pgns : List ℕ) (p : Pool) (k : Counters) (r : Received) where
  pub receives : (a : Arrival) → ReceivesHeard pgns (entered frame.ghosts.ENTRY p (frame.ghosts.hears a)) p k r → Receives pgns a p k r
  receives a h = h

  pub receives_with_length : (x : ArrivalWithLength) → ReceivesHeard pgns (entered frame.ghosts.ENTRY p (all_cut_to x.length (frame.ghosts.hears x.arrival))) p k r → ReceivesWithLength pgns x p k r
  receives_with_length x h = rw (frame_cut x) at h

  pub receives_by_id : (a : ArrivalById) → ReceivesHeard pgns (entered by_id.ghosts.ENTRY p (by_id.ghosts.hears a)) p k r → ReceivesById pgns a p k r
  receives_by_id a h = h

  pub receives_by_id_with_length : (x : ArrivalByIdWithLength) → ReceivesHeard pgns (entered by_id.ghosts.ENTRY p (all_cut_to x.length (by_id.ghosts.hears x.arrival))) p k r → ReceivesByIdWithLength pgns x p k r
  receives_by_id_with_length x h = rw (by_id_cut x) at h

-- ---- and with the counters lent

module _ (pgns : List ℕ) (p : Pool) (before : Counters) (r : Processed) (after : Counters) where
  pub processes : (a : Arrival) → ProcessesHeard pgns (entered frame.ghosts.ENTRY p (frame.ghosts.hears a)) p before r after → Processes pgns a p before r after
  processes a h = h

  pub processes_with_length : (x : ArrivalWithLength) → ProcessesHeard pgns (entered frame.ghosts.ENTRY p (all_cut_to x.length (frame.ghosts.hears x.arrival))) p before r after → ProcessesWithLength pgns x p before r after
  processes_with_length x h = rw (frame_cut x) at h

  pub processes_by_id : (a : ArrivalById) → ProcessesHeard pgns (entered by_id.ghosts.ENTRY p (by_id.ghosts.hears a)) p before r after → ProcessesById pgns a p before r after
  processes_by_id a h = h

  pub processes_by_id_with_length : (x : ArrivalByIdWithLength) → ProcessesHeard pgns (entered by_id.ghosts.ENTRY p (all_cut_to x.length (by_id.ghosts.hears x.arrival))) p before r after → ProcessesByIdWithLength pgns x p before r after
  processes_by_id_with_length x h = rw (by_id_cut x) at h
