-- Runs that witness the key and the choice of a slot, by computation: messages that differ in one part of the key alone are reassembled side by side, each whole;
-- and a first frame prefers a free slot of its source.
-- Assumes nothing.
use mathlib.Core.Bool.{true, false}
use mathlib.Core.List.{List, [], ◌∷◌}
use mathlib.Core.Path.{◌≡◌, refl}
use Prim.Native.Nat.{ℕ, ◌+◌, ◌*◌}
use lib.ListN.{get_or}
use Rattle.session.specs.declared.Kind.TheVariants.{FragmentConsumed, MessageComplete}
use Rattle.session.specs.Heads.{fresh_head}
use Rattle.session.specs.Counting.{fresh_counters}
use Rattle.assembler.specs.Call.{Call}
use Rattle.assembler.specs.Step.{padded}
use Rattle.ledger.specs.Ledger.{Saying, briefly, did, Delivered, Opening}
use Rattle.ledger.proofs.EveryFate.{ran, told}

-- a key, and a byte that tells its message from the others
pub record Sender : Type 0 where
  pub source : ℕ
  pub pgn : ℕ
  pub sequence : ℕ
  pub byte : ℕ

unfoldable pub sends : Sender → ℕ → List ℕ → Call
sends s at bytes = record { pgns = 127489 ∷ 127488 ∷ []; heard = record { now_ms = at; pgn = s.pgn; source_address = s.source; part = 0; «data» = bytes; length = 8 } }

-- a message of thirteen bytes: its first frame, and its continuation
unfoldable pub begin : Sender → ℕ → Call
begin s at = sends s at ((s.sequence * 32) ∷ 13 ∷ s.byte ∷ 2 ∷ 3 ∷ 4 ∷ 5 ∷ 6 ∷ [])

unfoldable pub finish : Sender → ℕ → Call
finish s at = sends s at ((s.sequence * 32 + 1) ∷ s.byte ∷ 8 ∷ 9 ∷ 10 ∷ 11 ∷ 12 ∷ 13 ∷ [])

unfoldable pub whole : Sender → Saying
whole s = record { kind = MessageComplete; payload = padded (s.byte ∷ 2 ∷ 3 ∷ 4 ∷ 5 ∷ 6 ∷ s.byte ∷ 8 ∷ 9 ∷ 10 ∷ 11 ∷ 12 ∷ 13 ∷ []); length = 13 }

-- ---- the key

-- one message, and three that differ from it in the sequence, in the PGN and in the source alone
unfoldable pub plain : Sender
plain = record { source = 35; pgn = 127489; sequence = 0; byte = 101 }

unfoldable pub other_sequence : Sender
other_sequence = record { source = 35; pgn = 127489; sequence = 1; byte = 102 }

unfoldable pub other_pgn : Sender
other_pgn = record { source = 35; pgn = 127488; sequence = 0; byte = 103 }

unfoldable pub other_source : Sender
other_source = record { source = 36; pgn = 127489; sequence = 0; byte = 104 }

unfoldable pub interleaved : List Call
interleaved =
    begin plain 0 ∷ begin other_sequence 1 ∷ begin other_pgn 2 ∷ begin other_source 3
    ∷ finish other_source 4 ∷ finish plain 5 ∷ finish other_pgn 6 ∷ finish other_sequence 7 ∷ []

pub record Keyed : Type 0 where
  -- each is delivered whole, the latest first
  pub answers : (ran 4 interleaved).said
      ≡ whole other_sequence ∷ whole other_pgn ∷ whole plain ∷ whole other_source
      ∷ briefly FragmentConsumed ∷ briefly FragmentConsumed ∷ briefly FragmentConsumed ∷ briefly FragmentConsumed ∷ []
  pub counters : (ran 4 interleaved).counters ≡ fresh_counters
  -- ... by the ledger too: four opened in idle places, and four delivered
  pub opened : did Opening (told 4 interleaved) ≡ 4
  pub delivered : did Delivered (told 4 interleaved) ≡ 4

pub keyed : Keyed
unfolding told interleaved begin finish sends whole plain other_sequence other_pgn other_source
keyed = record { answers = refl; counters = refl; opened = refl; delivered = refl }

-- ---- the preference for a free slot of the same source

-- both slots are left idle, slot 0 by source 35 and slot 1 by source 36; then source 36 takes slot 1, though slot 0 is free and stands first
unfoldable pub again : List Call
again =
    begin plain 0 ∷ begin other_source 1 ∷ finish plain 2 ∷ finish other_source 3
    ∷ begin other_source 4 ∷ []

-- source 35 has a silent message in slot 0, and slot 1 is idle and keeps source 35: its next message takes slot 0, which stands first
unfoldable pub silent_first : List Call
silent_first =
    begin plain 0 ∷ begin other_sequence 1 ∷ finish other_sequence 2
    ∷ begin other_pgn 501 ∷ []

pub record Preferred : Type 0 where
  pub own_idle : (get_or (ran 2 again).heads 0 fresh_head).in_progress ≡ false
  pub own_taken : (get_or (ran 2 again).heads 1 fresh_head).in_progress ≡ true
  pub own_source : (get_or (ran 2 again).heads 1 fresh_head).source_address ≡ 36
  pub silent_taken : (get_or (ran 2 silent_first).heads 0 fresh_head).pgn ≡ 127488
  pub silent_idle : (get_or (ran 2 silent_first).heads 1 fresh_head).in_progress ≡ false
  pub silent_expired : (ran 2 silent_first).counters.expired_sessions ≡ 1

pub preferred : Preferred
unfolding ran again silent_first begin finish sends plain other_sequence other_pgn other_source
preferred = record { own_idle = refl; own_taken = refl; own_source = refl; silent_taken = refl; silent_idle = refl; silent_expired = refl }
