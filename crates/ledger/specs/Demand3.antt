-- Demand 3: what is seen of the assembler after any run of calls is what the ledger of those calls says.
use Rattle.std.specs.Prelude.{Bool, false, not, ◌&&◌, ◌||◌, List, [], ◌∷◌, map, ◌≡◌, ℕ, ◌+◌, eqb, leb}
use Rattle.base.specs.Lists.{any}
use Rattle.fast_packet.specs.FastPacket.{max_payload}
use Rattle.session.specs.declared.Head.{Head}
use Rattle.session.specs.declared.Counters.{Counters}
use Rattle.session.specs.Rules.{Rules}
use Rattle.session.specs.Frames.{index_of, size_of, cut_first}
use Rattle.session.specs.Heads.{has_key, is_silent}
use Rattle.assembler.specs.Call.{Call, listed}
use Rattle.ledger.specs.Ledger.{Ledger, Saying, next_deed, saying_due, unsent, OwnBook, opens, is_one_of, as_number, how_many, did, openings, held, was_opened, fates_of, Delivered, Broken, Restarting, Reclaiming, NoSlot, Stray, BadFrame, Unlisted}

-- what is seen after a run: all that was said, the latest first; the heads of the slots within the size; the counters
pub record Seen : Type 0 where
  pub said : List Saying
  pub heads : List Head
  pub counters : Counters

unfoldable pub heads_in_progress : List Head → ℕ
heads_in_progress hs = how_many (λ (h : Head). h.in_progress) hs

-- what is seen and the ledger agree
pub record Agreed (s : Seen) (L : Ledger) : Type 0 where
  -- every answer is the one that the ledger's entry calls for: each delivered message is its own frames' bytes, cut at the announced size, which is its length
  pub answers : s.said ≡ map saying_due L.entries
  -- ... and its own frames are the one that began it and all that were copied for it, by the book
  pub own : OwnBook L.entries
  -- ... which sent as many bytes as it announced, so that every byte of it was sent: no filling stands in it
  pub sent : any unsent L.entries ≡ false
  -- the five counts add up to those opened
  pub five_counts_add_up : did Delivered L + did Broken L + did Restarting L + did Reclaiming L + held L ≡ openings L
  -- each opened message has exactly one fate, and a number that was not opened has none
  pub exactly_one_fate : (k : ℕ) → fates_of k L ≡ as_number (was_opened k L)
  -- held is the slots in progress
  pub holding : held L ≡ heads_in_progress s.heads
  -- the counters
  pub expired : s.counters.expired_sessions ≡ did Reclaiming L
  pub lost : s.counters.lost_fragments ≡ did Broken L + did Stray L
  pub exhausted : s.counters.pool_exhausted ≡ did NoSlot L
  pub rejected : s.counters.rejected_frames ≡ did BadFrame L
  pub unknown : s.counters.unknown_pgn ≡ did Unlisted L

-- a listed first frame that announces 7 to 223 bytes, and is not cut short
unfoldable pub is_opener : Call → Bool
is_opener c = listed c && eqb (index_of c.heard) 0 && leb 7 (size_of c.heard) && leb (size_of c.heard) max_payload && not (cut_first c.heard)

-- this slot holds the frame's key, stands idle, or is silent
unfoldable pub has_room : Rules → Call → Head → Bool
has_room R c h = has_key R c.heard h || not h.in_progress || is_silent R c.heard h

-- the next call c opens a message exactly when it is a listed first frame announcing 7 to 223 bytes, not cut short, and some slot has room for it; it is
-- refused a slot exactly when it is such a frame and no slot has
pub record Admitted (R : Rules) (s : Seen) (L : Ledger) (c : Call) : Type 0 where
  pub opening : opens (next_deed R L c) ≡ (is_opener c && any (has_room R c) s.heads)
  pub refusing : is_one_of (NoSlot ∷ []) (next_deed R L c) ≡ (is_opener c && not (any (has_room R c) s.heads))

-- ... and so is every next call
pub record Closes (R : Rules) (s : Seen) (L : Ledger) : Type 0 where
  pub agreed : Agreed s L
  pub admitted : (c : Call) → Admitted R s L c
