-- An answer read back by 01's numbers is the step's reply. Assumes nothing.
use Prim.Native.Nat.{ℕ}
use mathlib.Core.Path.{◌≡◌, refl}
use mathlib.Core.Bool.{Bool, true, false}
use mathlib.Core.List.{List}
use Rattle.base.specs.Answer.{gives}
use Rattle.base.specs.Pick.{pick}
use Rattle.session.specs.declared.Counters.{Counters}
use Rattle.session.specs.declared.Heard.{Heard}
use Rattle.session.specs.declared.Mode.{Mode}
use Rattle.session.specs.declared.PoolKind.{PoolKind}
use Rattle.session.specs.Rules.{Rules}
use Rattle.assembler.specs.declared.Pool.{Pool}
use Rattle.assembler.specs.Call.{Call}
use Rattle.assembler.specs.Slots.{Slots, impossible}
use Rattle.assembler.specs.Step.{unlisted, bad_frame, no_slot, lost, Said, ignored, consumed, complete, outcome, step_if, step}
use Rattle.assembler.specs.View.{slots_of, why_kind, reply_kind, reply_payload, reply_length, shown, reply_by, reply_of, receive_of}

said_back : (s : Said) → reply_by (reply_kind (gives s)) (reply_payload (gives s)) (reply_length (gives s)) ≡ gives s
unfolding reply_by reply_kind why_kind reply_payload reply_length
said_back (ignored unlisted) = refl
said_back (ignored bad_frame) = refl
said_back (ignored no_slot) = refl
said_back (ignored lost) = refl
said_back consumed = refl
said_back (complete bytes n) = refl

step_back : (b : Bool) (d : PoolKind) (m : Mode) (R : Rules) (p : Slots) (k : Counters) (c : Call) → reply_of (shown d m (step_if b R p k c)) ≡ (step_if b R p k c).reply
unfolding reply_of shown step_if
step_back true d m R p k c = unfold reply_by reply_kind pick in refl
step_back false d m R p k c = unfold outcome in said_back _

pub replied : (R : Rules) (pgns : List ℕ) (f : Heard) (p : Pool) (k : Counters) → reply_of (receive_of R pgns f p k) ≡ (step R (slots_of p) k (record { pgns = pgns; heard = f })).reply
unfolding receive_of step
replied R pgns f p k = step_back (impossible R (slots_of p)) p.kind p.mode R (slots_of p) k (record { pgns = pgns; heard = f })
