-- The plan of a frame, made from one head: what becomes of the head, and which bytes go where. Nobody needs to believe these definitions: only the
-- code's own contracts cite them.
use Rattle.std.specs.Prelude.{Some, None, Bool, true, false, ◌&&◌, ℕ, eqb, leb}
use Rattle.session.specs.declared.Head.{Head}
use Rattle.session.specs.declared.Heard.{Heard}
use Rattle.session.specs.declared.Plan.{Plan}
use Rattle.session.specs.declared.Kind.{Kind}
use Rattle.session.specs.declared.Kind.TheVariants.{ImpossiblePool, NotListed, Rejected, PoolFull, Lost, FragmentConsumed, MessageComplete}
use Rattle.session.specs.declared.Counter.TheVariants as counter
use Rattle.session.specs.Frames.{index_of, size_of, is_empty, bad_first}
use Rattle.session.specs.Heads.{is_next, opened_head, reset_head, wanted, copied_head, all_there}
use Rattle.session.specs.Counting.{Mark, expired_mark}

-- a test for silence: all that a plan asks of the rules
abbrev pub Silent : Type 0
Silent = ℕ → ℕ → Bool

-- "in progress and silent over 500"
unfoldable pub is_late : Silent → Heard → Head → Bool
is_late silent f h = h.in_progress && silent f.now_ms h.last_seen_ms

unfoldable pub idle : Kind → Mark → Head → Plan
idle k m h = record { kind = k; mark = m; head = h; at = 0; from = 0; count = 0; whole = 0; short = 0 }

unfoldable pub plan_open : Bool → Silent → Heard → Head → Plan
plan_open false silent f h = idle PoolFull (Some counter.Exhausted) h
plan_open true silent f h = record { kind = FragmentConsumed; mark = expired_mark (is_late silent f h); head = opened_head f; at = 0; from = 2; count = 6; whole = 0; short = 0 }

unfoldable pub plan_short : Bool → Bool → Silent → Heard → Head → Plan
plan_short true found silent f h = record { kind = MessageComplete; mark = None; head = h; at = 0; from = 0; count = 0; whole = 0; short = size_of f }
plan_short false found silent f h = plan_open found silent f h

unfoldable pub plan_sized : Bool → Bool → Silent → Heard → Head → Plan
plan_sized true found silent f h = idle Rejected (Some counter.Rejected) h
plan_sized false found silent f h = plan_short (leb (size_of f) 6) found silent f h

unfoldable pub plan_first : Bool → Silent → Heard → Head → Plan
plan_first found silent f h = plan_sized (bad_first f) found silent f h

unfoldable pub plan_copy : Bool → Heard → Head → Plan
plan_copy true f h =
    record { kind = MessageComplete; mark = None; head = reset_head (copied_head f h); at = h.current_size; from = 1; count = wanted h; whole = h.expected_size; short = 0 }
plan_copy false f h =
    record { kind = FragmentConsumed; mark = None; head = copied_head f h; at = h.current_size; from = 1; count = wanted h; whole = 0; short = 0 }

unfoldable pub plan_turn : Bool → Heard → Head → Plan
plan_turn true f h = plan_copy (all_there (copied_head f h)) f h
plan_turn false f h = idle Lost (Some counter.Lost) (reset_head h)

unfoldable pub plan_next : Bool → Heard → Head → Plan
plan_next false f h = idle Lost (Some counter.Lost) h
plan_next true f h = plan_turn (is_next f h) f h

unfoldable pub plan_index : Bool → Bool → Silent → Heard → Head → Plan
plan_index true found silent f h = plan_first found silent f h
plan_index false found silent f h = plan_next found f h

unfoldable pub plan_sent : Bool → Bool → Silent → Heard → Head → Plan
plan_sent true found silent f h = idle Rejected (Some counter.Rejected) h
plan_sent false found silent f h = plan_index (eqb (index_of f) 0) found silent f h

unfoldable pub plan_listed : Bool → Bool → Silent → Heard → Head → Plan
plan_listed false found silent f h = idle NotListed (Some counter.Unknown) h
plan_listed true found silent f h = plan_sent (is_empty f) found silent f h

unfoldable pub plan_of : Bool → Bool → Bool → Silent → Heard → Head → Plan
plan_of true listed found silent f h = idle ImpossiblePool None h
plan_of false listed found silent f h = plan_listed listed found silent f h
