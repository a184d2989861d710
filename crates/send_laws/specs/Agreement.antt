-- "The oracle shares no code with the assembler or the builder": the bench reads identifiers and lays out payloads by definitions of its own. What it means
-- that they come to the same.
use Rattle.std.specs.Prelude.{ℕ, zero, suc, ◌≤◌, List, [], ◌∷◌, ◌++◌, ◌≡◌, true, length}
use Rattle.base.specs.Answer.{gives, refuses}
use Rattle.base.specs.Pick.{pick}
use Rattle.can_id.specs.Layout.{pgn_of, source_of}
use Rattle.can_id.specs.Read.{parts_of, read_of}
use Rattle.can_id.specs.Build.{build_of}
use Rattle.can_id.specs.declared.CanFrame.{CanFrame}
use Rattle.fast_packet.specs.FastPacket.{max_payload}
use Rattle.builder.specs.Builder.{id_builder}
use Rattle.builder.specs.Next.{NextAnswer, frame, end, refusal}
use Rattle.builder.specs.declared.FastPacketBuilder.{FastPacketBuilder}
use Rattle.splitter.specs.Frames.{is_wide}
use Rattle.splitter.specs.Split.{split_frames}
use Rattle.splitter.specs.declared.Frame.{Frame}
use Rattle.oracle.specs.Ids.{bench_pgn, bench_source}
use Rattle.send_laws.specs.Message.{answer_at, frame_total}

-- ---- the two readings of an identifier: reading refuses exactly the numbers that the bench calls too wide, and of all numbers source and PGN are the same
pub record ReadingsAgree (id : ℕ) : Type 0 where
  pub width : read_of id ≡ pick (is_wide id) (refuses 8 []) (gives (parts_of id))
  pub source : bench_source id ≡ source_of id
  pub pgn : bench_pgn id ≡ pgn_of id

-- ---- the two framings of a payload
-- a builder's frame as the bench's: identifier, bytes and length
abbrev pub as_bench : CanFrame → Frame
as_bench f = record { id = f.id.0; «data» = f.«data»; len = f.len }

-- the frame of an answer, where it has one
abbrev pub frame_if_any : NextAnswer → CanFrame → List Frame
frame_if_any frame f = as_bench f ∷ []
frame_if_any end f = []
frame_if_any (refusal n carried) f = []

-- the frames of a builder's first n answers, in order
unfoldable pub sent_frames : FastPacketBuilder → List ℕ → ℕ → List Frame
sent_frames b p zero = []
sent_frames b p (suc n) = sent_frames b p n ++ frame_if_any (answer_at b p n).kind (answer_at b p n).sent

-- of a fast builder with an identifier, and a payload of 1 to 223 bytes: asked often enough, or more often, it gives the splitter's frames, byte for byte and
-- in order, and no other
abbrev pub FramingsAgree : FastPacketBuilder → ℕ → List ℕ → Type 0
FramingsAgree b id p =
    b.fast ≡ true → build_of (id_builder b) ≡ gives id → 1 ≤ length p → length p ≤ max_payload
    → (n : ℕ) → frame_total (length p) ≤ n → sent_frames b p n ≡ split_frames id b.sequence_id p
