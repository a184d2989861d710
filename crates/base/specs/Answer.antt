-- An answer as document 01 has it: a value, or a refusal's number with the values that its table says it carries.
use Rattle.std.specs.Prelude.{ℕ, List, length}

pub data Answer (A : Type 0) : Type 0 where
  gives : A → Answer A
  refuses : ℕ → List ℕ → Answer A

-- the number by which an answer is told: a refusal's own, or 0
abbrev pub code_of : {A : Type 0} → Answer A → ℕ
code_of (gives x) = 0
code_of (refuses n carried) = n

-- where an answer is how many there are: their number, or the refusal
unfoldable pub counted : {A : Type 0} → Answer (List A) → Answer ℕ
counted (gives l) = gives (length l)
counted (refuses k vs) = refuses k vs
