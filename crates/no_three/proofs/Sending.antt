-- No identifier is refused by 3, read or built, and no step of a builder gives it. A test that holds of every leaf of a definition by `pick` holds of what it gives.
-- Assumes nothing.
use Prim.Native.Nat.{ℕ}
use mathlib.Core.List.{List}
use Rattle.std.proofs.Common.{Option, Some, None, Result, Ok, Err}
use native.Mathlib.Omega.{arith}
use Rattle.base.specs.Answer.{Answer, gives, refuses, code_of}
use Rattle.base.proofs.Cases.{pick_all}
use Rattle.can_id.specs.Read.{read_number, of_read, read_of}
use Rattle.can_id.specs.Build.{error_number, of_built, build_to, build_of}
use Rattle.can_id.specs.declared.CanIdBuilder.{CanIdBuilder}
use Rattle.can_id.specs.declared.CanIdBuildError.{CanIdBuildError}
use Rattle.can_id.specs.declared.CanIdBuildError.TheVariants.{InvalidData, InvalidForBroadcast, InvalidForFocusedMessage, PsFocusMessageMustBeNull, EmptyPayload}
use Rattle.can_id.specs.declared.CanId.{CanId}
use Rattle.can_id.specs.declared.CanFrame.{CanFrame}
use Rattle.can_id.specs.declared.CanIdParts.{CanIdParts}
use Rattle.can_id.specs.declared.CanIdReadError.{CanIdReadError}
use Rattle.session.specs.declared.Heard.{Heard}
use Rattle.assembler.specs.Arrivals.{of_heard}
use Rattle.can_id.specs.declared.CanIdReadError.TheVariants.{TooWide}
use Rattle.builder.specs.Builder.{id_builder}
use Rattle.builder.specs.Next.{Step, of_answer, framed_step, built_step, next_of}
use Rattle.builder.specs.declared.FastPacketBuilder.{FastPacketBuilder}
use Rattle.numbers.specs.Frames.{next_code}
use Rattle.no_three.specs.NoThree.{NotThree}

-- an answer by another number
abbrev pub Other : {A : Type 0} → Answer A → Type 0
Other a = NotThree (code_of a)

-- ---- reading
pub read_other : (id : ℕ) → Other (read_of id)
unfolding read_of
read_other id = pick_all Other _ (omega arith) (omega arith)

pub wide_other : (e : CanIdReadError) → NotThree (read_number e)
wide_other TooWide = omega arith

pub read_case_other : (r : Result CanIdParts CanIdReadError) → Other (of_read r)
read_case_other (Ok p) = omega arith
read_case_other (Err e) = wide_other e

pub heard_case_other : (r : Result Heard CanIdReadError) → Other (of_heard r)
heard_case_other (Ok f) = omega arith
heard_case_other (Err e) = wide_other e

-- ---- building
to_other : (t : Option ℕ) (b : CanIdBuilder) → Other (build_to t b)
to_other None b = pick_all Other _ (omega arith) (omega arith)
to_other (Some d) b = pick_all Other _ (pick_all Other _ (omega arith) (omega arith)) (omega arith)

pub build_other : (b : CanIdBuilder) → Other (build_of b)
unfolding build_of
build_other b = pick_all Other _ (omega arith) (to_other b.destination b)

abbrev pub OtherStep : Step → Type 0
OtherStep s = NotThree (next_code s.kind)

module _ (b : FastPacketBuilder) (index sent : ℕ) (p : List ℕ) where
  framed : (id : ℕ) → OtherStep (framed_step id b index sent p)
  unfolding framed_step
  framed id =
      pick_all OtherStep _ (omega arith)
      (pick_all OtherStep _ (pick_all OtherStep _ (omega arith) (omega arith)) (pick_all OtherStep _ (omega arith) (omega arith)))

  built : (a : Answer ℕ) → Other a → OtherStep (built_step a b index sent p)
  built (gives id) h = framed id
  built (refuses n carried) h = h

  pub next_other : OtherStep (next_of b index sent p)
  unfolding next_of
  next_other =
      pick_all OtherStep _ (pick_all OtherStep _ (omega arith) (omega arith))
      (pick_all OtherStep _ (omega arith) (built (build_of (id_builder b)) (build_other (id_builder b))))

-- ---- any answer of the code
pub error_other : (e : CanIdBuildError) → NotThree (error_number e)
error_other InvalidData = omega arith
error_other InvalidForBroadcast = omega arith
error_other (InvalidForFocusedMessage pf) = omega arith
error_other PsFocusMessageMustBeNull = omega arith
error_other EmptyPayload = omega arith

pub built_case_other : (b : Result CanId CanIdBuildError) → Other (of_built b)
built_case_other (Ok id) = omega arith
built_case_other (Err e) = error_other e

pub next_case_other : (k : Result (Option CanFrame) CanIdBuildError) → NotThree (next_code (of_answer k))
next_case_other (Ok (Some f)) = omega arith
next_case_other (Ok None) = omega arith
next_case_other (Err e) = error_other e
