-- Each promise of `can_id` determines its answer: two that satisfy it are equal. Assumes nothing.
use Prim.Native.Nat.{ℕ, ◌-◌}
use mathlib.Core.List.{[], ◌∷◌}
use mathlib.Core.Path.{◌≡◌, refl}
use Rattle.std.proofs.Common.{Result, Ok, Err}
use lib.ListN.{get_or}
use Rattle.base.proofs.Cases.{determined, determined_by}
use Rattle.base.specs.Answer.{Answer, gives, refuses}
use Rattle.can_id.specs.Read.{read_number, of_read, read_of}
use Rattle.can_id.specs.Build.{error_number, of_built, build_of, new_id_builder, id_with_priority, id_with_destination}
use Rattle.can_id.specs.declared.CanIdParts.{CanIdParts}
use Rattle.can_id.specs.declared.CanIdReadError.{CanIdReadError}
use Rattle.can_id.specs.declared.CanIdReadError.TheVariants.{TooWide}
use Rattle.can_id.specs.declared.CanId.{CanId}
use Rattle.can_id.specs.declared.CanIdBuilder.{CanIdBuilder}
use Rattle.can_id.specs.declared.CanIdBuildError.{CanIdBuildError}
use Rattle.can_id.specs.declared.CanIdBuildError.TheVariants.{InvalidData, InvalidForBroadcast, InvalidForFocusedMessage, PsFocusMessageMustBeNull, EmptyPayload}

-- ---- reading: the answer is given back by what it gives; of the refusals there is one
back_read : Answer CanIdParts → Result CanIdParts CanIdReadError
back_read (gives parts) = Ok parts
back_read (refuses n l) = Err TooWide

kept_read : (r : Result CanIdParts CanIdReadError) → back_read (of_read r) ≡ r
unfolding back_read
kept_read (Ok parts) = refl
kept_read (Err TooWide) = refl

pub read_unique : (id : ℕ) (r s : Result CanIdParts CanIdReadError) → of_read r ≡ read_of id → of_read s ≡ read_of id → r ≡ s
read_unique id r s = determined_by of_read back_read kept_read

pub read_number_unique : (e : CanIdReadError) (r s : ℕ) → r ≡ read_number e → s ≡ read_number e → r ≡ s
read_number_unique e r s = determined

-- ---- the builder and its setters
pub fresh_unique : (pgn source : ℕ) (r s : CanIdBuilder) → r ≡ new_id_builder pgn source → s ≡ new_id_builder pgn source → r ≡ s
fresh_unique pgn source r s = determined

pub with_priority_unique : (b : CanIdBuilder) (p : ℕ) (r s : CanIdBuilder) → r ≡ id_with_priority b p → s ≡ id_with_priority b p → r ≡ s
with_priority_unique b p r s = determined

pub with_destination_unique : (b : CanIdBuilder) (d : ℕ) (r s : CanIdBuilder) → r ≡ id_with_destination b d → s ≡ id_with_destination b d → r ≡ s
with_destination_unique b d r s = determined

-- ---- building: the numbers give the answer back, by a table from 2 on; no answer has number 3, so any case may stand in its place
back : Answer ℕ → Result CanId CanIdBuildError
back (gives n) = Ok (record { 0 = n })
back (refuses n l) = Err (get_or (InvalidData ∷ InvalidData ∷ InvalidForBroadcast ∷ InvalidForFocusedMessage (get_or l 0 0) ∷ PsFocusMessageMustBeNull ∷ EmptyPayload ∷ []) (n - 2) InvalidData)

kept : (r : Result CanId CanIdBuildError) → back (of_built r) ≡ r
unfolding back
kept (Ok id) = refl
kept (Err InvalidData) = refl
kept (Err InvalidForBroadcast) = refl
kept (Err (InvalidForFocusedMessage pf)) = refl
kept (Err PsFocusMessageMustBeNull) = refl
kept (Err EmptyPayload) = refl

pub answers_unique : (r s : Result CanId CanIdBuildError) → of_built r ≡ of_built s → r ≡ s
answers_unique r s e = determined_by of_built back kept e refl

pub build_unique : (b : CanIdBuilder) (r s : Result CanId CanIdBuildError) → of_built r ≡ build_of b → of_built s ≡ build_of b → r ≡ s
build_unique b r s = determined_by of_built back kept

-- ---- a refusal's number
pub error_number_unique : (e : CanIdBuildError) (r s : ℕ) → r ≡ error_number e → s ≡ error_number e → r ≡ s
error_number_unique e r s = determined
