-- The lengths of the rows that a batch is lent.
use Rattle.std.specs.Prelude.{ℕ, ◌*◌, Bool, ◌||◌, nat_lt}

-- a row is shorter than the n frames ask
unfoldable pub too_short : ℕ → ℕ → ℕ → ℕ → ℕ → ℕ → Bool
too_short n pgns sources bytes kinds lengths = nat_lt pgns n || (nat_lt sources n || (nat_lt bytes (n * 8) || (nat_lt kinds n || nat_lt lengths n)))
