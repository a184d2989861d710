-- No pool is refused by 3, no step of the receive call is, and no batch; and no kind has that number. Assumes nothing.
use Prim.Native.Nat.{ℕ, zero, suc}
use mathlib.Core.Bool.{Bool, true, false}
use mathlib.Core.List.{List, [], ◌∷◌, ◌++◌}
use mathlib.Core.Path.{subst, sym}
use native.Mathlib.Omega.{arith}
use lib.ListN.{length, get_or, drop, get_or-append}
use Rattle.base.proofs.Cases.{pick_all}
use Rattle.session.specs.Rules.{Rules}
use Rattle.session.specs.Kinds.{kind_number}
use Rattle.session.specs.declared.Counters.{Counters}
use Rattle.session.specs.declared.Kind.{Kind}
use Rattle.session.specs.declared.Kind.TheVariants.{ImpossiblePool, TooWide, NotListed, Rejected, PoolFull, Lost, FragmentConsumed, MessageComplete}
use Rattle.assembler.specs.Call.{Call}
use Rattle.assembler.specs.Making.{Made, size_made, of_made}
use Rattle.assembler.specs.Slots.{Slots, impossible}
use Rattle.assembler.specs.Step.{step_if, step, outcome}
use Rattle.std.proofs.Common.{Ok, Err}
use Rattle.assembler.specs.declared.Pool.{Pool}
use Rattle.batch.specs.Rows.{Rows, frame_in_rows, Run, empty_run, took, answer_in, run_from, run_of, BatchLeft, over, leaves, refused_by, batch_of, taken_in}
use Rattle.no_three.specs.NoThree.{NotThree, NoneIsThree}
use Rattle.no_three.proofs.Sending.{Other}

-- ---- a pool made
pub size_other : (wanted : ℕ) → Other (size_made wanted)
unfolding size_made
size_other wanted = pick_all Other _ (omega arith) (omega arith)

pub made_other : (r : Made) → Other (of_made r)
unfolding of_made
made_other (Ok p) = omega arith
made_other (Err e) = omega arith

-- ---- one frame
pub kind_other : (k : Kind) → NotThree (kind_number k)
unfolding kind_number
kind_other ImpossiblePool = omega arith
kind_other TooWide = omega arith
kind_other NotListed = omega arith
kind_other Rejected = omega arith
kind_other PoolFull = omega arith
kind_other Lost = omega arith
kind_other FragmentConsumed = omega arith
kind_other MessageComplete = omega arith

module _ (R : Rules) (p : Slots) (k : Counters) (c : Call) where
  by_possible : (b : Bool) → Other (step_if b R p k c).reply
  unfolding step_if outcome
  by_possible true = omega arith
  by_possible false = omega arith

  pub step_other : Other (step R p k c).reply
  unfolding step
  step_other = by_possible (impossible R p)

-- ---- a batch
-- every entry of a row is another
abbrev Others : List ℕ → Type 0
Others l = (i : ℕ) → NotThree (get_or l i 0)

one_more : (l : List ℕ) (n : ℕ) → Others l → NotThree n → Others (l ++ (n ∷ []))
one_more [] n h e zero = e
one_more [] n h e (suc i) = omega arith
one_more (x ∷ l) n h e zero = h 0
one_more (x ∷ l) n h e (suc i) = one_more l n (λ j. h (suc j)) e i

-- neither the answer of a batch nor an entry that it wrote
abbrev pub OtherBatch : BatchLeft → Type 0
OtherBatch l = Other l.answer × NoneIsThree (taken_in l.answer) l.kinds

module _ (R : Rules) (list : List ℕ) (w : Rows) where
  run_others : (room n i : ℕ) (z : Run) → Others z.kinds → Others (run_from R list w room n i z).kinds
  unfolding run_from took
  run_others room zero i z h = h
  run_others room (suc n) i z h =
      pick_all (λ (y : Run). Others y.kinds) _ h
      (run_others room n (suc i) (took z (answer_in R list z (frame_in_rows w i))) (one_more z.kinds _ h (kind_other _)))

  module _ (p : Pool) (k : Counters) (kinds lengths arena : List ℕ) where
    run_written : (z : Run) → Others z.kinds → OtherBatch (leaves z kinds lengths arena)
    unfolding leaves over taken_in
    run_written z h = (omega arith, λ i low. subst NotThree (sym (get_or-append z.kinds (drop (length z.kinds) kinds) 0 i low)) (h i))

    pub batch_other : OtherBatch (batch_of R list w p k kinds lengths arena)
    unfolding batch_of refused_by run_of empty_run taken_in
    batch_other =
        pick_all OtherBatch _ (omega arith, λ i low. omega (arith, low))
        (pick_all OtherBatch _ (omega arith, λ i low. omega (arith, low))
        (run_written _ (run_others (length arena) (length w.times) 0 _ (λ i. omega arith))))
