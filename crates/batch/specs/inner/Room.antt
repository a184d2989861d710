-- Whether the arena has room for a message, as the code asks it. Nobody needs to believe this: `run_from` says it of the run.
use Rattle.std.specs.Prelude.{ℕ, ◌+◌, Bool, nat_lt}

-- the arena, of which `used` bytes are taken, has no room for a message of n bytes
abbrev pub no_room : ℕ → ℕ → ℕ → Bool
no_room room used n = nat_lt room (used + n)
