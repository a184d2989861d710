-- The three rows of numbers that the code searches in beside the heads: a key, an owner and a time for each slot. Nobody needs to believe these
-- definitions: only the code's own contracts cite them.
use Rattle.std.specs.Prelude.{◌≡◌, ℕ, zero, suc, ◌+◌, ◌*◌, ◌<◌, ◌≤◌, min, Bool, not, ◌&&◌, ◌||◌, List, length, ◌==◌, nat_le, nat_lt, slice_index, slice_index_or}
use Rattle.base.specs.Pick.{pick}
use Rattle.fast_packet.specs.FastPacket.{max_payload}
use Rattle.session.specs.declared.Head.{Head}
use Rattle.session.specs.declared.Heard.{Heard}
use Rattle.session.specs.declared.Mode.{Mode}
use Rattle.session.specs.Rules.{pool_limit, silent_by}
use Rattle.session.specs.Frames.{sequence_of, index_of, size_of}
use Rattle.session.specs.inner.Search.{first_of}

-- source, PGN, sequence and part as one number above 0; parts from 511 on are one, for none of them is a destination's
unfoldable pub packed : ℕ → ℕ → ℕ → ℕ → ℕ
packed source pgn sequence part = min part 511 * 281474976710656 + source * 1099511627776 + pgn * 256 + sequence + 1

-- the key of a slot in progress; 0 of an idle one
unfoldable pub key_number : Head → ℕ
key_number h = pick h.in_progress (packed h.source_address h.pgn h.sequence_id h.part) 0

unfoldable pub frame_key : Heard → ℕ
frame_key f = packed f.source_address f.pgn (sequence_of f) f.part

-- what the types of a source, of a PGN and of a byte bound
pub record InRange (s p b : ℕ) : Type 0 where
  pub source : s < 256
  pub pgn : p < 4294967296
  pub byte : b < 256

-- a frame's key is in range, and its part is none or a destination's
pub record Keyed (f : Heard) : Type 0 where
  pub range : InRange f.source_address f.pgn (slice_index f.«data» 0)
  pub part : f.part ≤ 256

-- what stands in the three rows for a head
pub record Shows (h : Head) (k o t : ℕ) : Type 0 where
  pub key : k ≡ key_number h
  pub owner : o ≡ h.source_address
  pub last : t ≡ h.last_seen_ms
  pub range : InRange h.source_address h.pgn h.sequence_id

-- the rows show the first n heads
pub record Mirrors (n : ℕ) (heads : List Head) (ks os ts : List ℕ) : Type 0 where
  pub keys : length ks ≡ pool_limit
  pub owners : length os ≡ pool_limit
  pub lasts : length ts ≡ pool_limit
  pub at : (j : ℕ) (d : Head) → j < n → Shows (slice_index_or heads j d) (slice_index ks j) (slice_index os j) (slice_index ts j)

-- the first of n places, from i on, that passes; pool_limit stands for none
unfoldable pub first_from : (ℕ → Bool) → ℕ → ℕ → ℕ
first_from t i zero = pool_limit
first_from t i (suc n) = pick (t i) i (first_from t (suc i) n)

unfoldable pub key_at : List ℕ → ℕ → ℕ → Bool
key_at keys key j = slice_index keys j == key

unfoldable pub open_at : Mode → List ℕ → List ℕ → ℕ → ℕ → Bool
open_at mode keys lasts time j = slice_index keys j == 0 || silent_by mode time (slice_index lasts j)

unfoldable pub own_at : Mode → List ℕ → List ℕ → List ℕ → ℕ → ℕ → ℕ → Bool
own_at mode keys owners lasts source time j = open_at mode keys lasts time j && slice_index owners j == source

unfoldable pub live_at : Mode → List ℕ → List ℕ → ℕ → ℕ → ℕ → Bool
live_at mode keys lasts key time j = slice_index keys j == key && not (silent_by mode time (slice_index lasts j))

-- for a first frame: its key, else an open place of its source, else any
unfoldable pub chosen_in : Mode → List ℕ → List ℕ → List ℕ → ℕ → ℕ → ℕ → ℕ → ℕ
chosen_in mode keys owners lasts n key source time =
    first_of (first_from (key_at keys key) 0 n) (first_of (first_from (own_at mode keys owners lasts source time) 0 n) (first_from (open_at mode keys lasts time) 0 n))

unfoldable pub live_in : Mode → List ℕ → List ℕ → ℕ → ℕ → ℕ → ℕ
live_in mode keys lasts n key time = first_from (live_at mode keys lasts key time) 0 n

-- a first frame that takes no slot
unfoldable pub quiet : Heard → Bool
quiet f = nat_le (size_of f) 6 || nat_lt max_payload (size_of f)

-- the place that a frame takes; where it takes none nothing is looked for
unfoldable pub sought : Mode → List ℕ → List ℕ → List ℕ → ℕ → Bool → ℕ → Heard → ℕ
sought mode keys owners lasts n listed key f =
    pick listed
    (pick (index_of f == 0) (pick (quiet f) pool_limit (chosen_in mode keys owners lasts n key f.source_address f.now_ms)) (live_in mode keys lasts n key f.now_ms))
    pool_limit
