-- Slots, and a pool as a list of them with a size: which pools are impossible, which slot a frame takes, and the slots that it leaves.
use Rattle.std.specs.Prelude.{Bool, ◌||◌, List, ℕ, get_or, take, replicate, ltb}
use Rattle.std.proofs.Math.Option.{Option}
use Rattle.std.proofs.Math.Seq.{paste}
use Rattle.base.specs.Lists.{first_at, or_else, any}
use Rattle.fast_packet.specs.FastPacket.{max_payload}
use Rattle.session.specs.declared.Head.{Head}
use Rattle.session.specs.declared.Heard.{Heard}
use Rattle.session.specs.Rules.{Rules}
use Rattle.session.specs.Frames.{first_bytes, next_bytes}
use Rattle.session.specs.Heads.{fresh_head, impossible_head, has_key, is_free, is_free_of_source, has_live_key, opened_head, reset_head, wanted, copied_head}

-- "A slot holds state, source, PGN, sequence, 223 bytes, expected size, current size, last index and last time": its head and its bytes
pub record Slot : Type 0 where
  pub head : Head
  pub buffer : List ℕ

-- "A pool has 0 to 8 slots", by No. 7 to 32: a size, and the slots; "Slots past the size are ignored and kept."
pub record Slots : Type 0 where
  pub slots : List Slot
  pub size : ℕ

-- "A fresh slot is idle with zeros."
unfoldable pub fresh_slot : Slot
fresh_slot = record { head = fresh_head; buffer = replicate max_payload 0 }

unfoldable pub fresh_slots : Rules → ℕ → Slots
fresh_slots R n = record { slots = replicate R.limit fresh_slot; size = n }

-- the slots within the size
abbrev pub within : Slots → List Slot
within p = take p.size p.slots

abbrev pub slot_at : List Slot → ℕ → Slot
slot_at ss i = get_or ss i fresh_slot

-- a test of heads, at a slot
abbrev pub on_head : (Head → Bool) → Slot → Bool
on_head t = λ (s : Slot). t s.head

-- step 1: "the pool size is over 8", by No. 7 over 32, "or an in-progress slot within it has .."
unfoldable pub impossible : Rules → Slots → Bool
impossible R p = ltb R.limit p.size || any (on_head (impossible_head R)) (within p)

-- step 3: "take the first slot in progress with this key, expired or not; else the first free slot with this source ..; else the first free slot"
unfoldable pub chosen : Rules → Heard → List Slot → Option ℕ
chosen R f ss = or_else (first_at (on_head (has_key R f)) ss) (or_else (first_at (on_head (is_free_of_source R f)) ss) (first_at (on_head (is_free R f)) ss))

-- step 4: "Take the first in-progress slot with this key not silent over 500."
unfoldable pub live : Rules → Heard → List Slot → Option ℕ
live R f ss = first_at (on_head (has_live_key R f)) ss

-- "Then it opens: first six bytes stored ..; other buffer bytes stay." (`paste b at s n` is b with the first n of s in place of those from `at` on.)
unfoldable pub opened_slot : Heard → Slot → Slot
opened_slot f s = record { head = opened_head f; buffer = paste s.buffer 0 (first_bytes f) 6 }

-- "the slot is reset (..; source, buffer and time kept)"
unfoldable pub reset_slot : Slot → Slot
reset_slot s = record { head = reset_head s.head; buffer = s.buffer }

-- "copy the lesser of 7 and what is missing, set index and time"
unfoldable pub copied_slot : Heard → Slot → Slot
copied_slot f s = record { head = copied_head f s.head; buffer = paste s.buffer s.head.current_size (next_bytes f) (wanted s.head) }
