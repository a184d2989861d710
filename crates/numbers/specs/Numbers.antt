-- The numbers that stand for what C does not have.
use Rattle.std.specs.Prelude.{ℕ, List, [], ◌∷◌, Option, Some, None, Result, Bool, not, ◌≡◌, ltb, eqb}
use Rattle.base.specs.Answer.{Answer, gives, refuses, code_of}
use Rattle.base.specs.Pick.{pick}
use Rattle.can_id.specs.Read.{of_read}
use Rattle.can_id.specs.Build.{of_built}
use Rattle.can_id.specs.declared.CanIdParts.{CanIdParts}
use Rattle.can_id.specs.declared.CanIdReadError.{CanIdReadError}
use Rattle.can_id.specs.declared.CanId.{CanId}
use Rattle.can_id.specs.declared.CanIdBuildError.{CanIdBuildError}

-- a flag is any number but 0
abbrev pub is_set : ℕ → Bool
is_set n = not (eqb n 0)

-- A number is written only where the field that is read from it has changed: over `old`, from which `read` was read.
unfoldable pub laid_on : ℕ → ℕ → ℕ → ℕ
laid_on old read new = pick (eqb read new) old new

-- a destination is an address below 256, and from 256 on there is none
unfoldable pub to_address : ℕ → Option ℕ
to_address n = pick (ltb n 256) (Some n) None

abbrev pub address_of : Option ℕ → ℕ
address_of None = 256
address_of (Some d) = d

-- ---- what an identifier says: priority, PGN, source, and destination or 256
abbrev pub part_numbers : CanIdParts → List ℕ
part_numbers p = p.priority ∷ p.pgn ∷ p.source_address ∷ address_of p.destination ∷ []

-- they stand in the place of four numbers; a refusal leaves those as they were
unfoldable pub parts_with : Answer CanIdParts → List ℕ → List ℕ
parts_with (gives p) numbers = part_numbers p
parts_with (refuses n l) numbers = numbers

-- an answer to reading as numbers: what is returned, and what the four become
pub record ToldInFour (a : Answer CanIdParts) (before : List ℕ) (code : ℕ) (after : List ℕ) : Type 0 where
  pub told : code ≡ code_of a
  pub laid : after ≡ parts_with a before

-- of what reading an identifier gave
abbrev pub ReadLeft : Result CanIdParts CanIdReadError → List ℕ → ℕ → List ℕ → Type 0
ReadLeft r before code after = ToldInFour (of_read r) before code after

-- ---- an answer that is one number
-- the one number that a refusal carries, or 0
abbrev pub carries_of : List ℕ → ℕ
carries_of [] = 0
carries_of (x ∷ l) = x

-- a call that may refuse returns its answer's code, and lends out what it gives, or what the refusal carries
abbrev pub value_of : Answer ℕ → ℕ
value_of (gives x) = x
value_of (refuses n l) = carries_of l

-- what such a call leaves: the number returned, and the number lent out
pub record Answered (a : Answer ℕ) (code value : ℕ) : Type 0 where
  pub told : code ≡ code_of a
  pub given : value ≡ value_of a

-- of what building an identifier gave
abbrev pub BuiltLeft : Result CanId CanIdBuildError → ℕ → ℕ → Type 0
BuiltLeft b code value = Answered (of_built b) code value
