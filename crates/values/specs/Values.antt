-- The cases marked P of document 01's "Bench values", as one statement about the definitions that the contracts cite.
use Rattle.std.specs.Prelude.{ℕ, true, List, [], ◌∷◌, None, ◌≡◌}
use Rattle.base.specs.Answer.{gives, refuses}
use Rattle.can_id.specs.Build.{build_of, new_id_builder, id_with_priority, id_with_destination}
use Rattle.builder.specs.Builder.{new_builder}
use Rattle.builder.specs.Next.{next_of, frame_of, sent_step}
use Rattle.session.specs.declared.Counters.{Counters}
use Rattle.session.specs.declared.Kind.TheVariants.{Rejected, Lost, FragmentConsumed, MessageComplete}
use Rattle.session.specs.declared.Mode.{Mode}
use Rattle.session.specs.declared.Mode.TheVariants.{AsOriginal, SetBackIsSilence}
use Rattle.session.specs.declared.PoolKind.TheVariants.{Original}
use Rattle.session.specs.Counting.{fresh_counters}
use Rattle.assembler.specs.declared.Pool.{Pool}
use Rattle.assembler.specs.declared.Received.{Received}
use Rattle.assembler.specs.Slots.{slot_at}
use Rattle.assembler.specs.Step.{padded}
use Rattle.assembler.specs.Making.{fresh_pool_in, fresh_pool}
use Rattle.assembler.specs.View.{slots_of, receive_of}
use Rattle.assembler.specs.Promises.{rules_of}

-- what a call gives: PGN 127489, listed, from source 35, at this reading, with these eight bytes
abbrev pub heard_on : Pool → Counters → ℕ → List ℕ → Received
heard_on p k time bytes = receive_of (rules_of p) (127489 ∷ []) (record { now_ms = time; pgn = 127489; source_address = 35; part = 0; «data» = bytes; length = 8 }) p k

-- on a fresh pool of the default size in this mode, with zero counters
abbrev pub begin_in : Mode → ℕ → List ℕ → Received
begin_in mode time bytes = heard_on (fresh_pool_in Original mode 4) fresh_counters time bytes

-- as the original
abbrev pub begin : ℕ → List ℕ → Received
begin time bytes = begin_in AsOriginal time bytes

-- on what the last call left
abbrev pub then : Received → ℕ → List ℕ → Received
then r time bytes = heard_on r.pool r.counters time bytes

-- "00 07 then six bytes", at 1000
abbrev pub first : Received
first = begin 1000 (0 ∷ 7 ∷ 1 ∷ 2 ∷ 3 ∷ 4 ∷ 5 ∷ 6 ∷ [])

-- "then 01 and one more"
abbrev pub more : List ℕ
more = 1 ∷ 7 ∷ 255 ∷ 255 ∷ 255 ∷ 255 ∷ 255 ∷ 255 ∷ []

-- the first frame of a message of twenty bytes, at 1000: one continuation leaves it in progress
abbrev pub first_of_twenty : Mode → Received
first_of_twenty mode = begin_in mode 1000 (0 ∷ 20 ∷ 1 ∷ 2 ∷ 3 ∷ 4 ∷ 5 ∷ 6 ∷ [])

-- its continuation at 0
abbrev pub continued_at_zero : Mode → Received
continued_at_zero mode = then (first_of_twenty mode) 0 (1 ∷ 7 ∷ 8 ∷ 9 ∷ 10 ∷ 11 ∷ 12 ∷ 13 ∷ [])

-- these counters, and rejected_frames or lost_fragments at 1
abbrev pub rejected_once : Counters
rejected_once = record { expired_sessions = 0; pool_exhausted = 0; rejected_frames = 1; lost_fragments = 0; unknown_pgn = 0 }

abbrev pub lost_once : Counters
lost_once = record { expired_sessions = 0; pool_exhausted = 0; rejected_frames = 0; lost_fragments = 1; unknown_pgn = 0 }

pub record Values : Type 0 where
  -- "P1: priority 6, PGN 127489, source 35: 0x19F20123"
  pub p1 : build_of (new_id_builder 127489 35) ≡ gives 0x19F2_0123
  -- "P2: priority 6, PGN 60928, destination 255, source 35: 0x18EEFF23"
  pub p2 : build_of (id_with_destination (new_id_builder 60928 35) 255) ≡ gives 0x18EE_FF23
  -- "P3: priority 3, PGN 126208, destination 16, source 35: 0x0DED1023"
  pub p3 : build_of (id_with_destination (id_with_priority (new_id_builder 126208 35) 3) 16) ≡ gives 0x0DED_1023
  -- "P4: 127489 to 16: refusal 5, PF 242"
  pub p4 : build_of (id_with_destination (new_id_builder 127489 35) 16) ≡ refuses 5 (242 ∷ [])
  -- "P5: 60928 to nobody: 4"
  pub p5 : build_of (new_id_builder 60928 35) ≡ refuses 4 []
  -- "P6: 60929 to 255: 6"
  pub p6 : build_of (id_with_destination (new_id_builder 60929 35) 255) ≡ refuses 6 []
  -- "P7: PGN 0x40000: 2"
  pub p7 : build_of (new_id_builder 0x4_0000 35) ≡ refuses 2 []
  -- "P8: listed, sequence 2, payload 01 02 03: 40 03 01 02 03 FF FF FF"
  pub p8 : next_of (new_builder 127489 35 None (1 ∷ 2 ∷ 3 ∷ []) (127489 ∷ []) 2).builder 0 0 (1 ∷ 2 ∷ 3 ∷ []) ≡ sent_step (frame_of 0x19F2_0123 (0x40 ∷ 3 ∷ 1 ∷ 2 ∷ 3 ∷ 0xFF ∷ 0xFF ∷ 0xFF ∷ []) 8) 1 3
  -- "P9: announced 0 or 224, listed: Ignored, rejected_frames 1 each"; by document 02's No. 2 this Ignored is Rejected
  pub p9_nothing : begin 0 (0 ∷ 0 ∷ 1 ∷ 2 ∷ 3 ∷ 4 ∷ 5 ∷ 6 ∷ []) ≡ record { kind = Rejected; payload = padded []; length = 0; pool = fresh_pool 4; counters = rejected_once }
  pub p9_too_much : begin 0 (0 ∷ 224 ∷ 1 ∷ 2 ∷ 3 ∷ 4 ∷ 5 ∷ 6 ∷ []) ≡ record { kind = Rejected; payload = padded []; length = 0; pool = fresh_pool 4; counters = rejected_once }
  -- "P10: listed, 00 07 then six bytes, then 01 and one more: FragmentConsumed, then length 7"
  pub p10_first : first.kind ≡ FragmentConsumed
  pub p10_then : (then first 1000 more).kind ≡ MessageComplete
  pub p10_length : (then first 1000 more).length ≡ 7
  pub p10_bytes : (then first 1000 more).payload ≡ padded (1 ∷ 2 ∷ 3 ∷ 4 ∷ 5 ∷ 6 ∷ 7 ∷ [])
  -- "P11: continuation after 500 ms taken; after 501 a stray, slot still in progress"; by document 02's No. 2 a stray is Lost
  pub p11_taken : (then first 1500 more).kind ≡ MessageComplete
  pub p11_stray : then first 1501 more ≡ record { kind = Lost; payload = padded []; length = 0; pool = first.pool; counters = lost_once }
  pub p11_held : (slot_at (slots_of (then first 1501 more).pool).slots 0).head.in_progress ≡ true
  -- "P12: opened at 1000, continued at 0: taken, last time 0"
  pub p12_taken : (continued_at_zero AsOriginal).kind ≡ FragmentConsumed
  pub p12_held : (slot_at (slots_of (continued_at_zero AsOriginal).pool).slots 0).head.in_progress ≡ true
  pub p12_time : (slot_at (slots_of (continued_at_zero AsOriginal).pool).slots 0).head.last_seen_ms ≡ 0
  pub p12_counted : (continued_at_zero AsOriginal).counters ≡ fresh_counters
  -- the same where document 02's No. 10 counts a clock set back as silence: a stray, and the slot stays in progress with its time, 1000
  pub p12_set_back : continued_at_zero SetBackIsSilence ≡ record { kind = Lost; payload = padded []; length = 0; pool = (first_of_twenty SetBackIsSilence).pool; counters = lost_once }
  pub p12_set_back_held : (slot_at (slots_of (continued_at_zero SetBackIsSilence).pool).slots 0).head.in_progress ≡ true
  pub p12_set_back_time : (slot_at (slots_of (continued_at_zero SetBackIsSilence).pool).slots 0).head.last_seen_ms ≡ 1000
