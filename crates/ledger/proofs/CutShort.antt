-- Frames cut short, of which demand 3 speaks too: a run that has each kind of cut, and the assembler that fills up within a message, of which demand 3 does
-- not hold. Assumes nothing.
use mathlib.Core.List.{List, [], ◌∷◌, map}
use mathlib.Core.Path.{◌≡◌, refl, ap}
use Prim.Native.Nat.{ℕ}
use native.Mathlib.Omega.{arith}
use lib.Dec.{lit<, lit≤}
use Rattle.session.specs.declared.Kind.TheVariants as kind
use Rattle.session.specs.Rules.{part_allowed, rules_by, base}
use Rattle.assembler.specs.Call.{Call}
use Rattle.assembler.specs.Making.{fresh_pool}
use Rattle.assembler.specs.View.{receive_of}
use Rattle.ledger.specs.Ledger.{saying_due, ledger_of, did, openings, held, Delivered, Broken, Stray, NoSlot, BadFrame, AtOnce}
use Rattle.ledger.specs.Demand3.{heads_in_progress}
use Rattle.ledger.specs.Runs.{sources_of}
use Rattle.ledger.specs.Assemblers.{Demand3, Receive, AllOk, none, more, seen_after}
use Rattle.ledger.proofs.EveryFate.{ran, told, cut_frame, frame, announces, said_kind}
use Rattle.ledger.proofs.Trials.{last_length, last_byte}

-- the first frame of a message of eight bytes, of which the first k bytes were sent
unfoldable pub begins_cut : ℕ → ℕ → Call
begins_cut k now = cut_frame k now 35 (0 ∷ 8 ∷ 1 ∷ 2 ∷ 3 ∷ 4 ∷ 5 ∷ 255 ∷ [])

-- its continuation, of which only byte 0 and one byte of the message were sent, filled up
unfoldable pub ends_cut : ℕ → Call
ends_cut now = cut_frame 2 now 35 (1 ∷ 7 ∷ 255 ∷ 255 ∷ 255 ∷ 255 ∷ 255 ∷ 255 ∷ [])

-- the whole of it
unfoldable pub ends_whole : ℕ → Call
ends_whole now = cut_frame 3 now 35 (1 ∷ 7 ∷ 8 ∷ 255 ∷ 255 ∷ 255 ∷ 255 ∷ 255 ∷ [])

-- ---- one slot, and each kind of cut

unfoldable pub cuts : List Call
cuts =
    -- a first frame without its last byte is Rejected, and so are one without its size and a frame without a byte
    begins_cut 7 0 ∷ begins_cut 1 1 ∷ cut_frame 0 2 35 (255 ∷ 255 ∷ 255 ∷ 255 ∷ 255 ∷ 255 ∷ 255 ∷ 255 ∷ [])
    -- then there is no message to continue: a stray, though it is cut
    ∷ ends_cut 3
    -- a message broken by a continuation that lacks a byte
    ∷ announces 8 4 35 ∷ ends_cut 5
    -- a message delivered, whose last frame has the bytes that it needs and no more
    ∷ announces 8 6 35 ∷ ends_whole 7
    -- a message of three bytes in a frame of five, and in one of four
    ∷ cut_frame 5 8 35 (0 ∷ 3 ∷ 1 ∷ 2 ∷ 3 ∷ 255 ∷ 255 ∷ 255 ∷ []) ∷ cut_frame 4 9 35 (0 ∷ 3 ∷ 1 ∷ 2 ∷ 255 ∷ 255 ∷ 255 ∷ 255 ∷ []) ∷ []

pub record Cuts : Type 0 where
  pub opened : openings (told 1 cuts) ≡ 2
  pub delivered : did Delivered (told 1 cuts) ≡ 1
  pub broken : did Broken (told 1 cuts) ≡ 1
  pub strays : did Stray (told 1 cuts) ≡ 1
  pub bad : did BadFrame (told 1 cuts) ≡ 4
  pub at_once : did AtOnce (told 1 cuts) ≡ 1
  -- none of those is among the refused
  pub refused : did NoSlot (told 1 cuts) ≡ 0
  pub still_held : held (told 1 cuts) ≡ 0
  -- what was said, the latest first
  pub names : map said_kind (ran 1 cuts).said
      ≡ kind.Rejected ∷ kind.MessageComplete ∷ kind.MessageComplete ∷ kind.FragmentConsumed ∷ kind.Lost ∷ kind.FragmentConsumed ∷ kind.Lost
      ∷ kind.Rejected ∷ kind.Rejected ∷ kind.Rejected ∷ []
  pub in_progress : heads_in_progress (ran 1 cuts).heads ≡ 0
  pub lost : (ran 1 cuts).counters.lost_fragments ≡ 2
  pub rejected : (ran 1 cuts).counters.rejected_frames ≡ 4

pub every_cut : Cuts
unfolding told cuts begins_cut ends_cut ends_whole announces frame cut_frame said_kind
every_cut =
    record {
      opened = refl;
      delivered = refl;
      broken = refl;
      strays = refl;
      bad = refl;
      at_once = refl;
      refused = refl;
      still_held = refl;
      names = refl;
      in_progress = refl;
      lost = refl;
      rejected = refl;
    }

-- ---- the assembler that fills up within a message: it takes every frame for one of which all eight bytes were sent, as document 01 has it

unfoldable pub fills_up : Receive
fills_up pgns f p k = receive_of base pgns (record { now_ms = f.now_ms; pgn = f.pgn; source_address = f.source_address; part = f.part; «data» = f.«data»; length = 8 }) p k

-- a message of eight bytes, of whose last the sender said nothing
unfoldable pub lacking : List Call
lacking = announces 8 0 35 ∷ ends_cut 1 ∷ []

lacking_ok : AllOk base lacking
unfolding base rules_by part_allowed lacking announces ends_cut frame cut_frame
lacking_ok = more (record { eight = refl; byte = lit< tt }) refl (more (record { eight = refl; byte = lit< tt }) refl none)

fills_up_says : last_length (seen_after fills_up (fresh_pool 1) lacking).said ≡ 8
unfolding ran lacking announces ends_cut frame cut_frame fills_up last_length
fills_up_says = refl

-- 0xFF stands in the message
fills_up_delivers : last_byte 7 (seen_after fills_up (fresh_pool 1) lacking).said ≡ 255
unfolding ran lacking announces ends_cut frame cut_frame fills_up last_byte
fills_up_delivers = refl

lacking_says : last_length (map saying_due (ledger_of base (sources_of (fresh_pool 1)) lacking).entries) ≡ 0
unfolding told lacking announces ends_cut frame cut_frame last_length
lacking_says = refl

pub rejects_fills_up : Demand3 base (sources_of (fresh_pool 1)) (seen_after fills_up (fresh_pool 1)) → ⊥
unfolding Demand3
rejects_fills_up d = omega (arith, ap last_length (d lacking lacking_ok (unfold lacking in lit≤ tt)).agreed.answers, fills_up_says, lacking_says)
