-- The five counters, and which one a frame raises.
use Rattle.std.specs.Prelude.{Option, Some, None, Bool, true, false, ℕ, ◌+◌, min}
use Rattle.session.specs.declared.Counters.{Counters}
use Rattle.session.specs.declared.Counter.{Counter}
use Rattle.session.specs.declared.Counter.TheVariants.{Expired, Exhausted, Rejected, Lost, Unknown}

-- the counters in the Rust's order
abbrev pub counts : ℕ → ℕ → ℕ → ℕ → ℕ → Counters
counts expired exhausted rejected lost unknown =
    record {
      expired_sessions = expired;
      pool_exhausted = exhausted;
      rejected_frames = rejected;
      lost_fragments = lost;
      unknown_pgn = unknown;
    }

unfoldable pub fresh_counters : Counters
fresh_counters = counts 0 0 0 0 0

-- "Each stops at 4,294,967,295"
unfoldable pub most : ℕ
most = 4294967295

unfoldable pub raise : ℕ → ℕ
raise n = min (n + 1) most

-- which counter a frame raises, if any
abbrev pub Mark : Type 0
Mark = Option Counter

-- the counter that the mark names is raised, and the others stay
unfoldable pub raised : Mark → Counters → Counters
raised None k = k
raised (Some Expired) k = counts (raise k.expired_sessions) k.pool_exhausted k.rejected_frames k.lost_fragments k.unknown_pgn
raised (Some Exhausted) k = counts k.expired_sessions (raise k.pool_exhausted) k.rejected_frames k.lost_fragments k.unknown_pgn
raised (Some Rejected) k = counts k.expired_sessions k.pool_exhausted (raise k.rejected_frames) k.lost_fragments k.unknown_pgn
raised (Some Lost) k = counts k.expired_sessions k.pool_exhausted k.rejected_frames (raise k.lost_fragments) k.unknown_pgn
raised (Some Unknown) k = counts k.expired_sessions k.pool_exhausted k.rejected_frames k.lost_fragments (raise k.unknown_pgn)

-- "A slot taken while in progress and silent over 500 counts in expired_sessions."
unfoldable pub expired_mark : Bool → Mark
expired_mark true = Some Expired
expired_mark false = None
