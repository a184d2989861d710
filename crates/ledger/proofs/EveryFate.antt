-- Nothing is vacuous: one run of the receive call in which every fate and every other deed occurs, told by its ledger, by computation.
-- Assumes nothing.
use mathlib.Core.List.{List, [], ◌∷◌, map}
use mathlib.Core.Path.{◌≡◌, refl}
use Prim.Native.Nat.{ℕ}
use Rattle.base.specs.Pick.{pick}
use Rattle.base.specs.Lists.{next_place, here, or_else, first_at, any, total}
use Rattle.fast_packet.specs.FastPacket.{listed_in}
use Rattle.session.specs.declared.Kind.{Kind}
use Rattle.session.specs.declared.Kind.TheVariants as kind
use Rattle.session.specs.Rules.{silence, silent_by, keys_equal, three_equal, part_allowed, any_part, rules_by, base, rules_without_part, original}
use Rattle.session.specs.Frames.{sequence_of, index_of, size_of, first_bytes, next_bytes, bad_size, key_of, sent_bytes, is_empty, cut_first, bad_first}
use Rattle.session.specs.Heads.{fresh_head, head_key, impossible_head, has_key, is_silent, is_free, is_free_of_source, has_live_key, is_expired, in_turn, cut_next, is_next, opened_head, reset_head, wanted, copied_head, all_there}
use Rattle.session.specs.Counting.{fresh_counters, most, raise, raised, expired_mark}
use Rattle.assembler.specs.Call.{Call}
use Rattle.assembler.specs.Slots.{fresh_slot, fresh_slots, impossible, chosen, live, opened_slot, reset_slot, copied_slot}
use Rattle.assembler.specs.Step.{opens_at, continues_at, event_of, slots_after, mark_of, padded, message, said_of, outcome, step_if, step}
use Rattle.assembler.specs.Making.{fresh_pool_in, fresh_pool}
use Rattle.assembler.specs.View.{slots_from, slots_of, head_of, flat, pool_of, zeros, why_kind, reply_kind, reply_payload, reply_length, shown, receive_of}
use Rattle.ledger.specs.Ledger.{Ledger, Saying, ledger_of, tells, tell, written, numbered, blank, tell_one, nothing_moved, opens_in, continues_in, given, held_in, opening_at, new_message, left, full, its_turn, lacks, awaited, grown, taken_by, key_held, late, free, source_at, free_of_source, live_held, latest_of, own_bytes, frames_bytes, announced, briefly, delivery, kind_due, saying, saying_due}
use Rattle.ledger.specs.Ledger.{deed_number, is_one_of, opens, begins, copies, ends, as_number, how_many, did, openings, is_some, held, Delivered, Broken, Restarting, Reclaiming, NoSlot, Stray, BadFrame, Unlisted, AtOnce}
use Rattle.ledger.specs.Demand3.{Seen, heads_in_progress}
use Rattle.ledger.specs.Runs.{start, kept_source, sources_of, saying_of, seen_in}
use Rattle.ledger.specs.Assemblers.{receives, seen_after}
use Rattle.ledger.specs.Runs as run

-- to unfold `ran` is to unfold all that its line names
unfoldable pub ran : ℕ → List Call → Seen
unfolding base rules_by original rules_without_part part_allowed any_part silent_by silence keys_equal three_equal listed_in sequence_of index_of size_of first_bytes next_bytes bad_size key_of is_empty cut_first bad_first next_place here or_else first_at any total pick fresh_head head_key impossible_head has_key is_silent is_free is_free_of_source has_live_key is_expired in_turn cut_next is_next opened_head reset_head wanted copied_head all_there fresh_counters most raise raised expired_mark fresh_slot fresh_slots impossible chosen live opened_slot reset_slot copied_slot opens_at continues_at event_of slots_after mark_of padded message said_of outcome step_if step slots_from slots_of head_of flat pool_of zeros why_kind reply_kind reply_payload reply_length shown receive_of fresh_pool_in fresh_pool start saying_of run.after_call receives seen_in seen_after heads_in_progress how_many as_number
ran n cs = seen_after (receive_of base) (fresh_pool n) cs

-- to unfold `told` is to unfold all that tells a ledger
unfoldable pub told : ℕ → List Call → Ledger
unfolding ran sent_bytes kept_source sources_of ledger_of tells tell written numbered blank tell_one nothing_moved opens_in continues_in given held_in opening_at new_message left full its_turn lacks awaited grown taken_by key_held late free source_at free_of_source live_held latest_of own_bytes frames_bytes announced briefly delivery kind_due saying saying_due deed_number is_one_of opens begins copies ends did openings is_some held
told n cs = ledger_of base (sources_of (fresh_pool n)) cs

-- ---- frames of PGN 127489, sequence 0

-- of whose eight bytes the first n were sent
unfoldable pub cut_frame : ℕ → ℕ → ℕ → List ℕ → Call
cut_frame n at from bytes = record { pgns = 7 ∷ 127489 ∷ []; heard = record { now_ms = at; pgn = 127489; source_address = from; part = 0; «data» = bytes; length = n } }

unfoldable pub frame : ℕ → ℕ → List ℕ → Call
unfolding cut_frame
frame at from bytes = cut_frame 8 at from bytes

-- the first frame of a message that announces so many bytes
unfoldable pub announces : ℕ → ℕ → ℕ → Call
announces n now from = frame now from (0 ∷ n ∷ 1 ∷ 2 ∷ 3 ∷ 4 ∷ 5 ∷ 6 ∷ [])

-- its continuation of index k
unfoldable pub goes_on : ℕ → ℕ → ℕ → Call
goes_on k now from = frame now from (k ∷ 7 ∷ 8 ∷ 9 ∷ 10 ∷ 11 ∷ 12 ∷ 13 ∷ [])

-- ---- one slot, twelve calls, and all that can happen

unfoldable pub every : List Call
every =
    -- delivered
    announces 7 0 35 ∷ goes_on 1 1 35
    -- broken by a frame out of turn
    ∷ announces 7 2 35 ∷ goes_on 2 3 35
    -- restarted in time
    ∷ announces 7 4 35 ∷ announces 7 5 35
    -- source 36 is refused after 500 ms, and reclaims the slot late after 501; its message is held to the end
    ∷ announces 7 505 36 ∷ announces 7 506 36
    -- a stray, a message delivered at once, a bad size, and a PGN that is not listed
    ∷ goes_on 1 507 35 ∷ announces 6 508 36 ∷ announces 224 509 36
    ∷ record { pgns = []; heard = (announces 7 510 36).heard } ∷ []

unfoldable pub said_kind : Saying → Kind
said_kind a = a.kind

pub record Every : Type 0 where
  pub opened : openings (told 1 every) ≡ 5
  pub delivered : did Delivered (told 1 every) ≡ 1
  pub broken : did Broken (told 1 every) ≡ 1
  pub restarted : did Restarting (told 1 every) ≡ 1
  pub reclaimed : did Reclaiming (told 1 every) ≡ 1
  pub still_held : held (told 1 every) ≡ 1
  pub strays : did Stray (told 1 every) ≡ 1
  pub refused : did NoSlot (told 1 every) ≡ 1
  pub bad : did BadFrame (told 1 every) ≡ 1
  pub unlisted : did Unlisted (told 1 every) ≡ 1
  pub at_once : did AtOnce (told 1 every) ≡ 1
  -- what was said, the latest first: every name that a call can give on a pool that the calls made
  pub names : map said_kind (ran 1 every).said
      ≡ kind.NotListed ∷ kind.Rejected ∷ kind.MessageComplete ∷ kind.Lost ∷ kind.FragmentConsumed ∷ kind.PoolFull
      ∷ kind.FragmentConsumed ∷ kind.FragmentConsumed ∷ kind.Lost ∷ kind.FragmentConsumed ∷ kind.MessageComplete ∷ kind.FragmentConsumed ∷ []
  pub in_progress : heads_in_progress (ran 1 every).heads ≡ 1
  pub lost : (ran 1 every).counters.lost_fragments ≡ 2
  pub expired : (ran 1 every).counters.expired_sessions ≡ 1
  pub exhausted : (ran 1 every).counters.pool_exhausted ≡ 1
  pub rejected : (ran 1 every).counters.rejected_frames ≡ 1
  pub unknown : (ran 1 every).counters.unknown_pgn ≡ 1

pub every_fate : Every
unfolding told every announces goes_on frame said_kind
every_fate =
    record {
      opened = refl;
      delivered = refl;
      broken = refl;
      restarted = refl;
      reclaimed = refl;
      still_held = refl;
      strays = refl;
      refused = refl;
      bad = refl;
      unlisted = refl;
      at_once = refl;
      names = refl;
      in_progress = refl;
      lost = refl;
      expired = refl;
      exhausted = refl;
      rejected = refl;
      unknown = refl;
    }
