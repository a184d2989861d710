-- What the entries of the bench promise: the refusal's number or 0, what is lent out, and the lent rows, before and after.
use Rattle.std.specs.Prelude.{ℕ, List, ◌≡◌}
use Rattle.base.specs.Answer.{counted, code_of}
use Rattle.oracle.specs.Strict.{delivered_to, list_with, arena_with}
use Rattle.oracle.specs.Check.{check_tx_of}
use Rattle.oracle.specs.Rows.{row_in}
use Rattle.splitter.specs.Split.{split_in, ids_with, bytes_with, lens_with}
use Rattle.numbers.specs.Numbers.{value_of}
use Rattle.numbers.specs.Fives.{ToldInFive}

-- strict reassembly: what is returned and the five numbers, the list and the arena
pub record ReassemblesInNumbers (ids bytes lens : List ℕ) (source pgn : ℕ) (list arena : List ℕ) (code : ℕ) (list' arena' values : List ℕ) : Type 0 where
  pub answer : ToldInFive (counted (delivered_to list arena (row_in ids bytes lens) source pgn)) code values
  pub list_after : list' ≡ list_with (delivered_to list arena (row_in ids bytes lens) source pgn) list
  pub arena_after : arena' ≡ arena_with (delivered_to list arena (row_in ids bytes lens) source pgn) arena

-- the splitter: what is returned, the three rows, and the number of frames
pub record SplitsInNumbers (id sequence : ℕ) (payload ids bytes lens : List ℕ) (code : ℕ) (ids' bytes' lens' : List ℕ) (frames : ℕ) : Type 0 where
  pub told : code ≡ code_of (counted (split_in id sequence payload ids bytes lens))
  pub ids_after : ids' ≡ ids_with (split_in id sequence payload ids bytes lens) ids
  pub bytes_after : bytes' ≡ bytes_with (split_in id sequence payload ids bytes lens) bytes
  pub lens_after : lens' ≡ lens_with (split_in id sequence payload ids bytes lens) lens
  pub given : frames ≡ value_of (counted (split_in id sequence payload ids bytes lens))

-- the transmit check: what is returned, and the five numbers
abbrev pub ChecksTxInNumbers : List ℕ → List ℕ → List ℕ → ℕ → ℕ → ℕ → ℕ → List ℕ → Type 0
ChecksTxInNumbers ids bytes lens source expected base = ToldInFive (check_tx_of (row_in ids bytes lens) source expected base)
