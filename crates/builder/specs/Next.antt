-- The next frame: "depends on the builder, frame index and bytes sent, and is fixed for every value of those". Steps 1 to 6 of document 01.
use Rattle.std.specs.Prelude.{ℕ, List, [], Option, Some, None, Result, Ok, Err, length, replicate, ◌==◌, nat_le, nat_lt}
use Rattle.base.specs.Pick.{pick}
use Rattle.base.specs.Answer.{Answer, gives, refuses}
use Rattle.can_id.specs.Build.{error_number, error_carries, build_of}
use Rattle.can_id.specs.declared.CanFrame.{CanFrame}
use Rattle.can_id.specs.declared.CanIdBuildError.{CanIdBuildError}
use Rattle.fast_packet.specs.FastPacket.{max_payload}
use Rattle.builder.specs.FrameBytes.{raw_frame_bytes, first_frame_bytes, later_frame_bytes, sent_by_first, sent_by_later, index_after}
use Rattle.builder.specs.Builder.{id_builder}
use Rattle.builder.specs.declared.FastPacketBuilder.{FastPacketBuilder}
use Rattle.builder.specs.declared.Next.{Next}

-- ---- an answer in document 01's words and numbers: a frame, End, or a refusal by its number with what it carries
pub data NextAnswer : Type 0 where
  frame : NextAnswer
  end : NextAnswer
  refusal : ℕ → List ℕ → NextAnswer

-- the answer, the frame or the zeros in its place, and the frame index and bytes sent that follow
pub record Step : Type 0 where
  pub kind : NextAnswer
  pub sent : CanFrame
  pub index : ℕ
  pub bytes : ℕ

abbrev pub of_answer : Result (Option CanFrame) CanIdBuildError → NextAnswer
of_answer (Ok (Some f)) = frame
of_answer (Ok None) = end
of_answer (Err e) = refusal (error_number e) (error_carries e)

abbrev pub frame_of : ℕ → List ℕ → ℕ → CanFrame
frame_of id bytes len = record { id = record { 0 = id }; «data» = bytes; len = len }

-- "an answer without a frame has zeros in its place"
abbrev pub no_frame : CanFrame
no_frame = frame_of 0 (replicate 8 0) 0

abbrev pub frame_in : Result (Option CanFrame) CanIdBuildError → CanFrame
frame_in (Ok (Some f)) = f
frame_in (Ok None) = no_frame
frame_in (Err e) = no_frame

abbrev pub of_next : Next → Step
of_next r = record { kind = of_answer r.answer; sent = frame_in r.answer; index = r.frame_index; bytes = r.bytes_sent }

-- ---- the three answers
abbrev pub sent_step : CanFrame → ℕ → ℕ → Step
sent_step f index bytes = record { kind = frame; sent = f; index = index; bytes = bytes }

abbrev pub end_step : ℕ → ℕ → Step
end_step index bytes = record { kind = end; sent = no_frame; index = index; bytes = bytes }

abbrev pub refused_step : ℕ → List ℕ → ℕ → ℕ → Step
refused_step n carried index bytes = record { kind = refusal n carried; sent = no_frame; index = index; bytes = bytes }

-- ---- step 5: "one raw frame, the payload and then 0xFF up to eight bytes, length as the payload; bytes sent becomes the length"
abbrev pub raw_step : ℕ → ℕ → List ℕ → Step
raw_step id index p = sent_step (frame_of id (raw_frame_bytes p) (length p)) index (length p)

-- ---- step 6: a frame of bytes "and the length is 8. Bytes sent goes up by the bytes taken. The frame index goes up by one": the first, or a later one
abbrev pub first_step : ℕ → ℕ → ℕ → List ℕ → Step
first_step id sequence index p = sent_step (frame_of id (first_frame_bytes sequence index p) 8) (index_after index) (sent_by_first p)

abbrev pub later_step : ℕ → ℕ → ℕ → ℕ → List ℕ → Step
later_step id sequence index sent p = sent_step (frame_of id (later_frame_bytes sequence index sent p) 8) (index_after index) (sent_by_later sent p)

-- ---- steps 4 to 6: "Payload over 223: refusal 2; bytes sent becomes the length."
-- "Marked not fast with over 8 bytes, which no new builder is: refusal 2, bytes sent likewise."
unfoldable pub framed_step : ℕ → FastPacketBuilder → ℕ → ℕ → List ℕ → Step
framed_step id b index sent p =
    pick (nat_lt max_payload (length p)) (refused_step 2 [] index (length p))
    (pick b.fast
    (pick (sent == 0) (first_step id b.sequence_id index p) (later_step id b.sequence_id index sent p))
    (pick (nat_lt 8 (length p)) (refused_step 2 [] index (length p)) (raw_step id index p)))

-- ---- step 3: "Identifier, with priority modulo 8, refused: that refusal; bytes sent becomes the length."
abbrev pub built_step : Answer ℕ → FastPacketBuilder → ℕ → ℕ → List ℕ → Step
built_step (gives id) b index sent p = framed_step id b index sent p
built_step (refuses n carried) b index sent p = refused_step n carried index (length p)

-- ---- step 1: "Empty payload: refusal 7 at index 0, and the index becomes 1; at any other index, End and no change."
-- step 2: "Bytes sent at or past the payload length: End, no change."
unfoldable pub next_of : FastPacketBuilder → ℕ → ℕ → List ℕ → Step
next_of b index sent p =
    pick (length p == 0)
    (pick (index == 0) (refused_step 7 [] 1 sent) (end_step index sent))
    (pick (nat_le (length p) sent) (end_step index sent) (built_step (build_of (id_builder b)) b index sent p))
