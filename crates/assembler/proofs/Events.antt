-- The parts of `event_of`, each by the test that it asks, so that proofs go test by test. Each is the definition's own text.
use mathlib.Core.Bool.{Bool}
use mathlib.Core.List.{List}
use Prim.Native.Nat.{ℕ}
use lib.Dec.{eqb, leb}
use Rattle.base.specs.Pick.{pick}
use Rattle.session.specs.declared.Head.{Head}
use Rattle.session.specs.declared.Heard.{Heard}
use Rattle.session.specs.Rules.{Rules}
use Rattle.session.specs.Frames.{index_of, size_of, is_empty, bad_first}
use Rattle.session.specs.Heads.{copied_head, all_there}
use Rattle.assembler.specs.Slots.{Slot, chosen, live}
use Rattle.assembler.specs.Step.{Event, not_listed, rejected, short_message, broken, copied, completed, opens_at, continues_at}

abbrev pub first_short : Bool → Rules → Heard → List Slot → Event
first_short b R f ss = pick b short_message (opens_at R f ss (chosen R f ss))

abbrev pub first_sized : Bool → Rules → Heard → List Slot → Event
first_sized b R f ss = pick b rejected (first_short (leb (size_of f) 6) R f ss)

abbrev pub copy_at : Bool → ℕ → Event
copy_at b i = pick b (completed i) (copied i)

abbrev pub turn_at : Bool → Heard → ℕ → Head → Event
turn_at b f i h = pick b (copy_at (all_there (copied_head f h)) i) (broken i)

abbrev pub by_index : Bool → Rules → Heard → List Slot → Event
by_index b R f ss = pick b (first_sized (bad_first f) R f ss) (continues_at f ss (live R f ss))

abbrev pub by_sent : Bool → Rules → Heard → List Slot → Event
by_sent b R f ss = pick b rejected (by_index (eqb (index_of f) 0) R f ss)

abbrev pub by_list : Bool → Rules → Heard → List Slot → Event
by_list b R f ss = pick b (by_sent (is_empty f) R f ss) not_listed
