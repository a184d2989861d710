-- Document 02, No. 12, by computation: one gateway's two answers by PGN 126208, to displays 16 and 17, with one source and one sequence, interleaved. A pool
-- whose key has the destination delivers both, each whole, though between their frames a call gets 8 and another 1 at the other kind's entry; a pool of the
-- original's kind takes them for one. Assumes nothing.
use mathlib.Core.List.{List, [], ◌∷◌, ◌++◌}
use mathlib.Core.Path.{◌≡◌, refl}
use Prim.Native.Nat.{ℕ, ◌+◌, ◌*◌}
use lib.Dec.{lit<}
use Rattle.can_id.specs.Layout.{pgn_of, destination_of}
use Rattle.can_id.specs.Read.{read_of}
use Rattle.session.specs.declared.Kind.TheVariants.{FragmentConsumed, MessageComplete, Lost}
use Rattle.session.specs.declared.Mode.{Mode}
use Rattle.session.specs.declared.Mode.TheVariants.{AsOriginal, SetBackIsSilence}
use Rattle.session.specs.declared.PoolKind.TheVariants.{Original, Addressed}
use Rattle.session.specs.Rules.{rules_by}
use Rattle.assembler.specs.declared.Arrival.{Arrival}
use Rattle.assembler.specs.declared.ArrivalById.{ArrivalById}
use Rattle.assembler.specs.Call.{Call, EightBytes}
use Rattle.assembler.specs.Making.{fresh_pool_in}
use Rattle.assembler.specs.Step.{padded}
use Rattle.assembler.specs.Arrivals.{heard_of, part_of, heard_from, heard_by_id}
use Rattle.assembler.specs.Promises.{same_kind, entered, at_original, at_addressed, result_of, result_on, answer_to, rules_of}
use Rattle.assembler.proofs.Entries.{frame, known_entered, known_by_id}
use Rattle.assembler.proofs.Promised.{promised}
use Rattle.ledger.specs.Ledger.{Saying, briefly, ledger_of, did, Delivered, Opening, Restarting, Stray}
use Rattle.ledger.specs.Runs.{State, start, calls_heard, said_to, after_entry, Called, received, received_by_id, Ran, stop, on}
use Rattle.ledger.proofs.EveryFate.{ran, told}

abbrev list : List ℕ
list = 126208 ∷ []

-- priority 3, PGN 126208, from 35 to this display: 0x0DED1023 and 0x0DED1123
unfoldable pub identifier : ℕ → ℕ
identifier to = 0x0ded_0023 + to * 256

-- the two frames of an answer of eight bytes, each of which is its display's address
unfoldable pub first_bytes : ℕ → List ℕ
first_bytes to = 0 ∷ 8 ∷ to ∷ to ∷ to ∷ to ∷ to ∷ to ∷ []

unfoldable pub last_bytes : ℕ → List ℕ
last_bytes to = 1 ∷ to ∷ to ∷ 255 ∷ 255 ∷ 255 ∷ 255 ∷ 255 ∷ []

unfoldable pub whole : ℕ → Saying
whole to = record { kind = MessageComplete; payload = padded (to ∷ to ∷ to ∷ to ∷ to ∷ to ∷ to ∷ to ∷ []); length = 8 }

-- ---- by the identifier

unfoldable pub by_id : ℕ → ℕ → List ℕ → ArrivalById
by_id at id bytes = record { now_ms = at; id = record { 0 = id }; «data» = bytes }

unfoldable pub next : State → ArrivalById → State
next z a = after_entry (at_addressed z.pool (heard_by_id a)) z (answer_to list (at_addressed z.pool (heard_by_id a)) z.pool z.counters)

called : (z : State) (a : ArrivalById) → EightBytes a.«data» → Called z (calls_heard list (at_addressed z.pool (heard_by_id a))) (next z a)
unfolding next
called z a ok = received_by_id list a ok (promised list (at_addressed z.pool (heard_by_id a)) z.pool z.counters (known_entered Addressed z.pool (known_by_id a)) refl)

-- at the other kind's entry
unfoldable pub by_pgn : ℕ → List ℕ → Arrival
by_pgn at bytes = record { now_ms = at; pgn = 126208; source_address = 35; «data» = bytes }

unfoldable pub next_old : State → Arrival → State
next_old z a = after_entry (at_original z.pool (heard_of a)) z (answer_to list (at_original z.pool (heard_of a)) z.pool z.counters)

called_old : (z : State) (a : Arrival) → EightBytes a.«data» → Called z (calls_heard list (at_original z.pool (heard_of a))) (next_old z a)
unfolding next_old
called_old z a ok = received list a ok (promised list (at_original z.pool (heard_of a)) z.pool z.counters (known_entered Original z.pool (frame _)) refl)

ok_first : (at id to : ℕ) → EightBytes (by_id at id (first_bytes to)).«data»
unfolding by_id first_bytes
ok_first at id to = record { eight = refl; byte = lit< tt }

ok_last : (at id to : ℕ) → EightBytes (by_id at id (last_bytes to)).«data»
unfolding by_id last_bytes
ok_last at id to = record { eight = refl; byte = lit< tt }

ok_old : (at to : ℕ) → EightBytes (by_pgn at (last_bytes to)).«data»
unfolding by_pgn last_bytes
ok_old at to = record { eight = refl; byte = lit< tt }

-- ---- the run, in either mode: both answers, and between them the two calls that count as no frame

module _ (mode : Mode) where
  unfoldable pub begun : State
  begun = start (fresh_pool_in Addressed mode 2)

  unfoldable pub first16 : State
  first16 = next begun (by_id 0 (identifier 16) (first_bytes 16))

  unfoldable pub too_wide : State
  too_wide = next first16 (by_id 5 0x2ded_1023 (last_bytes 16))

  unfoldable pub first17 : State
  first17 = next too_wide (by_id 10 (identifier 17) (first_bytes 17))

  unfoldable pub other_entry : State
  other_entry = next_old first17 (by_pgn 15 (last_bytes 16))

  unfoldable pub last16 : State
  last16 = next other_entry (by_id 20 (identifier 16) (last_bytes 16))

  unfoldable pub last17 : State
  last17 = next last16 (by_id 30 (identifier 17) (last_bytes 17))

  -- the frames that they heard
  unfoldable pub heard : List Call
  heard =
      calls_heard list (at_addressed begun.pool (heard_by_id (by_id 0 (identifier 16) (first_bytes 16))))
      ++ (calls_heard list (at_addressed first16.pool (heard_by_id (by_id 5 0x2ded_1023 (last_bytes 16))))
      ++ (calls_heard list (at_addressed too_wide.pool (heard_by_id (by_id 10 (identifier 17) (first_bytes 17))))
      ++ (calls_heard list (at_original first17.pool (heard_of (by_pgn 15 (last_bytes 16))))
      ++ (calls_heard list (at_addressed other_entry.pool (heard_by_id (by_id 20 (identifier 16) (last_bytes 16))))
      ++ (calls_heard list (at_addressed last16.pool (heard_by_id (by_id 30 (identifier 17) (last_bytes 17)))) ++ [])))))

  pub two_displays : Ran begun heard last17
  unfolding heard first16 too_wide first17 other_entry last16 last17
  two_displays =
      on (called begun _ (ok_first 0 (identifier 16) 16))
      (on (called first16 _ (ok_last 5 0x2ded_1023 16))
      (on (called too_wide _ (ok_first 10 (identifier 17) 17))
      (on (called_old first17 _ (ok_old 15 16))
      (on (called other_entry _ (ok_last 20 (identifier 16) 16))
      (on (called last16 _ (ok_last 30 (identifier 17) 17)) stop)))))

pub record Displays (mode : Mode) : Type 0 where
  -- each answer is delivered whole, the latest first, and nothing is said of the two calls between
  pub said : (last17 mode).said ≡ whole 17 ∷ whole 16 ∷ briefly FragmentConsumed ∷ briefly FragmentConsumed ∷ []
  -- a call that gets 8, or 1 at the other kind's entry, moves neither pool nor counters
  pub wide_moves_nothing : too_wide mode ≡ first16 mode
  pub other_moves_nothing : other_entry mode ≡ first17 mode
  -- by the ledger two were opened in idle places, and both delivered
  pub opened : did Opening (ledger_of (rules_by Addressed mode) (0 ∷ 0 ∷ []) (heard mode)) ≡ 2
  pub delivered : did Delivered (ledger_of (rules_by Addressed mode) (0 ∷ 0 ∷ []) (heard mode)) ≡ 2

pub displays : (mode : Mode) → Displays mode
unfolding told rules_of pgn_of destination_of read_of part_of heard_from heard_by_id heard_of same_kind entered result_of result_on answer_to calls_heard said_to after_entry identifier first_bytes last_bytes whole by_id by_pgn next next_old begun first16 too_wide first17 other_entry last16 last17 heard
displays AsOriginal = record { said = refl; wide_moves_nothing = refl; other_moves_nothing = refl; opened = refl; delivered = refl }
displays SetBackIsSilence = record { said = refl; wide_moves_nothing = refl; other_moves_nothing = refl; opened = refl; delivered = refl }

-- ---- the original's kind takes them for one: the second first frame restarts the message, and what is delivered has six bytes of one answer and two of the other

unfoldable pub without : ℕ → List ℕ → Call
without at bytes = record { pgns = list; heard = record { now_ms = at; pgn = 126208; source_address = 35; part = 0; «data» = bytes; length = 8 } }

unfoldable pub same : List Call
same = without 0 (first_bytes 16) ∷ without 10 (first_bytes 17) ∷ without 20 (last_bytes 16) ∷ without 30 (last_bytes 17) ∷ []

pub record TakenForOne : Type 0 where
  pub said : (ran 2 same).said
      ≡ briefly Lost
      ∷ record { kind = MessageComplete; payload = padded (17 ∷ 17 ∷ 17 ∷ 17 ∷ 17 ∷ 17 ∷ 16 ∷ 16 ∷ []); length = 8 }
      ∷ briefly FragmentConsumed ∷ briefly FragmentConsumed ∷ []
  pub restarted : did Restarting (told 2 same) ≡ 1
  pub stray : did Stray (told 2 same) ≡ 1

pub taken_for_one : TakenForOne
unfolding told same without first_bytes last_bytes
taken_for_one = record { said = refl; restarted = refl; stray = refl }
