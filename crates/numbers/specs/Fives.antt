-- The five numbers that an answer of the bench lends out.
use Rattle.std.specs.Prelude.{ℕ, List, [], ◌∷◌, ◌≡◌}
use Rattle.base.specs.Answer.{Answer, gives, refuses, code_of}

-- what a refusal carries, and zeros up to five numbers
unfoldable pub five : List ℕ → List ℕ
five [] = 0 ∷ 0 ∷ 0 ∷ 0 ∷ 0 ∷ []
five (a ∷ []) = a ∷ 0 ∷ 0 ∷ 0 ∷ 0 ∷ []
five (a ∷ b ∷ []) = a ∷ b ∷ 0 ∷ 0 ∷ 0 ∷ []
five (a ∷ b ∷ c ∷ []) = a ∷ b ∷ c ∷ 0 ∷ 0 ∷ []
five (a ∷ b ∷ c ∷ d ∷ []) = a ∷ b ∷ c ∷ d ∷ 0 ∷ []
five (a ∷ b ∷ c ∷ d ∷ e ∷ l) = a ∷ b ∷ c ∷ d ∷ e ∷ []

-- what is given, or what the refusal carries
unfoldable pub five_of : Answer ℕ → List ℕ
five_of (gives x) = five (x ∷ [])
five_of (refuses n l) = five l

-- an answer as numbers: what is returned, and the five that the lent row becomes
pub record ToldInFive (a : Answer ℕ) (code : ℕ) (values : List ℕ) : Type 0 where
  pub told : code ≡ code_of a
  pub carried : values ≡ five_of a
