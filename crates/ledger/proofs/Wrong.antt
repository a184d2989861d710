-- Wrong assemblers, each a receive call with one thing changed, and for each a run of which demand 3 does not hold.
-- Assumes nothing.
use mathlib.Core.Bool.{Bool, true, false}
use mathlib.Core.List.{◌++◌, map, reverse}
use mathlib.Core.Path.{◌≡◌, refl, ap}
use native.Mathlib.Omega.{arith}
use lib.ListN.{get_or, take, set}
use lib.Seq.{paste}
use lib.Dec.{ltb, lit<, lit≤}
use Rattle.session.specs.declared.Head.{Head}
use Rattle.session.specs.declared.Heard.{Heard}
use Rattle.session.specs.declared.Kind.{Kind}
use Rattle.session.specs.declared.Kind.TheVariants as kind
use Rattle.std.specs.Prelude.{Some}
use Rattle.session.specs.declared.Counter.TheVariants.{Expired, Lost}
use Rattle.session.specs.Rules.{base}
use Rattle.session.specs.Frames.{first_bytes, next_bytes}
use Rattle.session.specs.Heads.{opened_head}
use Rattle.session.specs.Counting.{fresh_counters}
use Rattle.assembler.specs.declared.Pool.{Pool}
use Rattle.assembler.specs.declared.Received.{Received}
use Rattle.assembler.specs.Slots.{Slot, opened_slot, reset_slot, copied_slot}
use Rattle.assembler.specs.Making.{fresh_pool}
use Rattle.assembler.specs.View.{zeros, receive_of}
use Rattle.ledger.specs.Ledger.{saying_due, ledger_of, did, held, Broken, Reclaiming}
use Rattle.ledger.specs.Demand3.{heads_in_progress}
use Rattle.ledger.specs.Runs.{sources_of}
use Rattle.ledger.specs.Assemblers.{Demand3, Receive, seen_after}
use Rattle.ledger.proofs.EveryFate.{ran, told, frame, announces, goes_on}
use Rattle.ledger.proofs.Trials.{pair, pair_ok, twice, twice_ok, firsts, firsts_ok, last_length, last_byte}
use Rattle.ledger.proofs.Parts.{Parts, whole_of, untouched, slots_by, mark_by, said_by, outcome_by, step_by, by}

-- ---- one that reassembles the first message and only says FragmentConsumed later

unfoldable pub completes : Kind → Bool
completes kind.ImpossiblePool = false
completes kind.TooWide = false
completes kind.NotListed = false
completes kind.Rejected = false
completes kind.PoolFull = false
completes kind.Lost = false
completes kind.FragmentConsumed = false
completes kind.MessageComplete = true

unfoldable pub mute : Bool → Received → Received
mute true a = record { kind = kind.FragmentConsumed; payload = zeros; length = 0; pool = a.pool; counters = a.counters }
mute false a = a

-- it marks the pool's last slot, past the size, once it has delivered
unfoldable pub marker : Head
marker =
    record {
      in_progress = false;
      source_address = 1;
      sequence_id = 0;
      last_frame_index = 0;
      pgn = 0;
      part = 0;
      expected_size = 0;
      current_size = 0;
      last_seen_ms = 0;
    }

unfoldable pub marked : Bool → Received → Received
marked true a = record { kind = a.kind; payload = a.payload; length = a.length; pool = record { kind = a.pool.kind; mode = a.pool.mode; size = a.pool.size; heads = set a.pool.heads 7 marker; bytes = a.pool.bytes }; counters = a.counters }
marked false a = a

unfoldable pub is_marked : Pool → Bool
is_marked p = ltb 0 (get_or p.heads 7 marker).source_address

unfoldable pub lazy : Receive
lazy pgns f p k = let a = receive_of base pgns f p k in mute (is_marked p) (marked (completes a.kind) a)

lazy_says : last_length (seen_after lazy (fresh_pool 4) twice).said ≡ 0
unfolding ran twice announces goes_on frame lazy mute completes marker marked is_marked last_length
lazy_says = refl

twice_says : last_length (map saying_due (ledger_of base (sources_of (fresh_pool 4)) twice).entries) ≡ 7
unfolding told twice announces goes_on frame last_length
twice_says = refl

pub rejects_lazy : Demand3 base (sources_of (fresh_pool 4)) (seen_after lazy (fresh_pool 4)) → ⊥
unfolding Demand3
rejects_lazy d =
    omega (arith, ap last_length (d twice twice_ok (unfold twice in lit≤ tt)).agreed.answers, lazy_says, twice_says)

-- ---- one that makes its counters up

unfoldable pub made_up : Receive
made_up pgns f p k = let a = receive_of base pgns f p k in record { kind = a.kind; payload = a.payload; length = a.length; pool = a.pool; counters = fresh_counters }

-- a continuation out of turn
made_up_counts : (seen_after made_up (fresh_pool 4) (pair 2 1)).counters.lost_fragments ≡ 0
unfolding ran pair announces goes_on frame made_up
made_up_counts = refl

one_broken : did Broken (ledger_of base (sources_of (fresh_pool 4)) (pair 2 1)) ≡ 1
unfolding told pair announces goes_on frame
one_broken = refl

pub rejects_made_up : Demand3 base (sources_of (fresh_pool 4)) (seen_after made_up (fresh_pool 4)) → ⊥
unfolding Demand3
rejects_made_up d =
    omega (arith, (d (pair 2 1) (pair_ok 2 1 (lit< tt)) (unfold pair in lit≤ tt)).agreed.lost, made_up_counts, one_broken)

-- ---- a message with two fates: delivered, and its slot still in progress

unfoldable pub two_fates : Parts
two_fates = record { opening = opened_slot; copying = copied_slot; at_once = untouched; breaking = reset_slot; ending = λ (s : Slot). s; straying = Some Lost; delivering = whole_of }

two_fates_holds : heads_in_progress (seen_after (by two_fates) (fresh_pool 1) (pair 1 1)).heads ≡ 1
unfolding ran pair announces goes_on frame by step_by outcome_by slots_by mark_by said_by whole_of two_fates
two_fates_holds = refl

delivered_held : held (ledger_of base (sources_of (fresh_pool 1)) (pair 1 1)) ≡ 0
unfolding told pair announces goes_on frame
delivered_held = refl

pub rejects_two_fates : Demand3 base (sources_of (fresh_pool 1)) (seen_after (by two_fates) (fresh_pool 1)) → ⊥
unfolding Demand3
rejects_two_fates d = omega (arith, (d (pair 1 1) (pair_ok 1 1 (lit< tt)) (unfold pair in lit≤ tt)).agreed.holding, two_fates_holds, delivered_held)

-- ---- a message with none: a short first frame with its key closes its session, and nothing says so

unfoldable pub no_fate : Parts
no_fate = record { opening = opened_slot; copying = copied_slot; at_once = map reset_slot; breaking = reset_slot; ending = reset_slot; straying = Some Lost; delivering = whole_of }

no_fate_holds : heads_in_progress (seen_after (by no_fate) (fresh_pool 1) (firsts 6)).heads ≡ 0
unfolding ran firsts announces frame by step_by outcome_by slots_by mark_by said_by whole_of no_fate
no_fate_holds = refl

short_held : held (ledger_of base (sources_of (fresh_pool 1)) (firsts 6)) ≡ 1
unfolding told firsts announces frame
short_held = refl

pub rejects_no_fate : Demand3 base (sources_of (fresh_pool 1)) (seen_after (by no_fate) (fresh_pool 1)) → ⊥
unfolding Demand3
rejects_no_fate d = omega (arith, (d (firsts 6) (firsts_ok 6) (unfold firsts in lit≤ tt)).agreed.holding, no_fate_holds, short_held)

-- ---- a late continuation counted as expired

unfoldable pub counts_late : Parts
counts_late = record { opening = opened_slot; copying = copied_slot; at_once = untouched; breaking = reset_slot; ending = reset_slot; straying = Some Expired; delivering = whole_of }

counts_late_counts : (seen_after (by counts_late) (fresh_pool 1) (pair 1 501)).counters.expired_sessions ≡ 1
unfolding ran pair announces goes_on frame by step_by outcome_by slots_by mark_by said_by whole_of untouched counts_late
counts_late_counts = refl

none_reclaimed : did Reclaiming (ledger_of base (sources_of (fresh_pool 1)) (pair 1 501)) ≡ 0
unfolding told pair announces goes_on frame
none_reclaimed = refl

pub rejects_counts_late : Demand3 base (sources_of (fresh_pool 1)) (seen_after (by counts_late) (fresh_pool 1)) → ⊥
unfolding Demand3
rejects_counts_late d = omega (arith, (d (pair 1 501) (pair_ok 1 501 (lit< tt)) (unfold pair in lit≤ tt)).agreed.expired, counts_late_counts, none_reclaimed)

-- ---- a broken session left open

unfoldable pub leaves_open : Parts
leaves_open = record { opening = opened_slot; copying = copied_slot; at_once = untouched; breaking = λ (s : Slot). s; ending = reset_slot; straying = Some Lost; delivering = whole_of }

leaves_open_holds : heads_in_progress (seen_after (by leaves_open) (fresh_pool 1) (pair 2 1)).heads ≡ 1
unfolding ran pair announces goes_on frame by step_by outcome_by slots_by mark_by said_by whole_of untouched leaves_open
leaves_open_holds = refl

broken_held : held (ledger_of base (sources_of (fresh_pool 1)) (pair 2 1)) ≡ 0
unfolding told pair announces goes_on frame
broken_held = refl

pub rejects_leaves_open : Demand3 base (sources_of (fresh_pool 1)) (seen_after (by leaves_open) (fresh_pool 1)) → ⊥
unfolding Demand3
rejects_leaves_open d = omega (arith, (d (pair 2 1) (pair_ok 2 1 (lit< tt)) (unfold pair in lit≤ tt)).agreed.holding, leaves_open_holds, broken_held)

-- ---- reversed bytes

pair_says : last_byte 0 (map saying_due (ledger_of base (sources_of (fresh_pool 1)) (pair 1 1)).entries) ≡ 1
unfolding told pair announces goes_on frame last_byte
pair_says = refl

unfoldable pub backwards : Parts
backwards = record { opening = opened_slot; copying = copied_slot; at_once = untouched; breaking = reset_slot; ending = reset_slot; straying = Some Lost; delivering = λ (f : Heard) (s : Slot). reverse (whole_of f s) }

backwards_says : last_byte 0 (seen_after (by backwards) (fresh_pool 1) (pair 1 1)).said ≡ 7
unfolding ran pair announces goes_on frame by step_by outcome_by slots_by mark_by said_by whole_of untouched backwards last_byte
backwards_says = refl

pub rejects_backwards : Demand3 base (sources_of (fresh_pool 1)) (seen_after (by backwards) (fresh_pool 1)) → ⊥
unfolding Demand3
rejects_backwards d = omega (arith, ap (last_byte 0) (d (pair 1 1) (pair_ok 1 1 (lit< tt)) (unfold pair in lit≤ tt)).agreed.answers, backwards_says, pair_says)

-- ---- a message not cut: all seven bytes of its last frame

unfoldable pub not_cut : Parts
not_cut =
    record {
      opening = opened_slot;
      copying = copied_slot;
      at_once = untouched;
      breaking = reset_slot;
      ending = reset_slot;
      straying = Some Lost;
      delivering = λ (f : Heard) (s : Slot). take s.head.current_size s.buffer ++ next_bytes f;
    }

not_cut_says : last_length (seen_after (by not_cut) (fresh_pool 1) (pair 1 1)).said ≡ 13
unfolding ran pair announces goes_on frame by step_by outcome_by slots_by mark_by said_by untouched not_cut last_length
not_cut_says = refl

pair_length : last_length (map saying_due (ledger_of base (sources_of (fresh_pool 1)) (pair 1 1)).entries) ≡ 7
unfolding told pair announces goes_on frame last_length
pair_length = refl

pub rejects_not_cut : Demand3 base (sources_of (fresh_pool 1)) (seen_after (by not_cut) (fresh_pool 1)) → ⊥
unfolding Demand3
rejects_not_cut d = omega (arith, ap last_length (d (pair 1 1) (pair_ok 1 1 (lit< tt)) (unfold pair in lit≤ tt)).agreed.answers, not_cut_says, pair_length)

-- ---- a byte lost: five of the first frame's six are stored

unfoldable pub loses_byte : Parts
loses_byte =
    record {
      opening = λ (f : Heard) (s : Slot). record { head = opened_head f; buffer = paste s.buffer 0 (first_bytes f) 5 };
      copying = copied_slot;
      at_once = untouched;
      breaking = reset_slot;
      ending = reset_slot;
      straying = Some Lost;
      delivering = whole_of;
    }

loses_byte_says : last_byte 5 (seen_after (by loses_byte) (fresh_pool 1) (pair 1 1)).said ≡ 0
unfolding ran pair announces goes_on frame by step_by outcome_by slots_by mark_by said_by whole_of untouched loses_byte last_byte
loses_byte_says = refl

sixth_says : last_byte 5 (map saying_due (ledger_of base (sources_of (fresh_pool 1)) (pair 1 1)).entries) ≡ 6
unfolding told pair announces goes_on frame last_byte
sixth_says = refl

pub rejects_loses_byte : Demand3 base (sources_of (fresh_pool 1)) (seen_after (by loses_byte) (fresh_pool 1)) → ⊥
unfolding Demand3
rejects_loses_byte d = omega (arith, ap (last_byte 5) (d (pair 1 1) (pair_ok 1 1 (lit< tt)) (unfold pair in lit≤ tt)).agreed.answers, loses_byte_says, sixth_says)
