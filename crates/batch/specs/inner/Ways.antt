-- The ways that most frames go, as the code tells them apart. Nobody needs to believe these definitions: only the code's own contracts cite them.
use Rattle.std.specs.Prelude.{ℕ, ◌-◌, Bool, ◌&&◌, replicate, ◌==◌, nat_le, nat_lt, Result, Ok, Err, Some}
use Rattle.base.specs.Pick.{pick}
use Rattle.session.specs.declared.Head.{Head}
use Rattle.session.specs.declared.Heard.{Heard}
use Rattle.session.specs.declared.Kind.{Kind}
use Rattle.session.specs.declared.Kind.TheVariants.{NotListed, Rejected, PoolFull, Lost}
use Rattle.session.specs.declared.Counter.TheVariants as counter
use Rattle.session.specs.Frames.{index_of, size_of, bad_size}
use Rattle.session.specs.Heads.{in_turn}
use Rattle.session.specs.Counting.{Mark}
use Rattle.batch.specs.declared.BatchError.{BatchError}
use Rattle.batch.specs.declared.BatchError.TheVariants.{ImpossiblePool, NoRoom}

-- how many bytes the message has that comes in this one frame; 0 where none does
unfoldable pub short_in : Bool → Heard → ℕ
short_in listed f = pick listed (pick (index_of f == 0) (pick (nat_le (size_of f) 6) (size_of f) 0) 0) 0

-- what a frame with no slot and no message is told, and the counter that it raises
unfoldable pub miss_kind : Bool → Heard → Kind
miss_kind listed f = pick listed (pick (index_of f == 0) (pick (bad_size f) Rejected PoolFull) Lost) NotListed

unfoldable pub miss_mark : Bool → Heard → Mark
miss_mark listed f = pick listed (pick (index_of f == 0) (pick (bad_size f) (Some counter.Rejected) (Some counter.Exhausted)) (Some counter.Lost)) (Some counter.Unknown)

-- the session's next frame, and more than its seven bytes are missing
unfoldable pub runs_on : Heard → Head → Bool
runs_on f h = in_turn f h && nat_lt 7 (h.expected_size - h.current_size)

-- what the pool is looked at with, before the first frame
unfoldable pub blank_heard : Heard
blank_heard = record { now_ms = 0; pgn = 0; source_address = 0; part = 0; «data» = replicate 8 0; length = 8 }

-- the refusal, if there is one: of an impossible pool, then of a row too short
unfoldable pub refusal_of : Bool → Bool → Result Unit BatchError
refusal_of bad short = pick bad (Err ImpossiblePool) (pick short (Err NoRoom) (Ok tt))
