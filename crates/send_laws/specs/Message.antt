-- A whole message in closed form: how many frames, which bytes the k-th has, and how many bytes are sent before it.
use Rattle.std.specs.Prelude.{ℕ, zero, suc, ◌+◌, ◌*◌, ◌-◌, ◌/◌, min, List, length, ltb}
use Rattle.base.specs.Pick.{pick}
use Rattle.builder.specs.FrameBytes.{first_frame_bytes, later_frame_bytes}
use Rattle.builder.specs.Next.{Step, frame_of, sent_step, end_step, raw_step}
use Rattle.builder.specs.Frames.{Turn, started, next_turn}
use Rattle.builder.specs.declared.FastPacketBuilder.{FastPacketBuilder}
use Rattle.builder.specs.declared.FrameIterator.{FrameIterator}

-- ---- asked again and again
abbrev pub iterator_of : Turn → FrameIterator
iterator_of t = record { builder = t.builder; frame_index = t.answer.index; bytes_sent = t.answer.bytes }

-- the iterator after k questions
unfoldable pub place_after : ℕ → FrameIterator → List ℕ → FrameIterator
place_after zero it p = it
place_after (suc k) it p = iterator_of (next_turn (place_after k it p) p)

-- the answer to question k, counted from 0, of a builder's message
abbrev pub answer_at : FastPacketBuilder → List ℕ → ℕ → Step
answer_at b p k = (next_turn (place_after k (started b) p) p).answer

-- ---- the frames of a fast message of n bytes
-- 1 + (n - 6) / 7, rounded up: one, and one more for every seven bytes after the first six
abbrev pub frame_total : ℕ → ℕ
frame_total n = 1 + (n - 6 + 6) / 7

-- before frame k six bytes of the first and seven of each other have gone, and never more than there are
abbrev pub sent_before : ℕ → ℕ → ℕ
sent_before k n = min (7 * k - 1) n

-- frame k's bytes, by step 6
abbrev pub message_bytes : ℕ → ℕ → List ℕ → List ℕ
message_bytes sequence zero p = first_frame_bytes sequence 0 p
message_bytes sequence (suc k) p = later_frame_bytes sequence (suc k) (7 * suc k - 1) p

-- ---- the answers: the frames one by one, and then End for good
unfoldable pub fast_answer : ℕ → ℕ → List ℕ → ℕ → Step
fast_answer id sequence p k =
    pick (ltb k (frame_total (length p)))
    (sent_step (frame_of id (message_bytes sequence k p) 8) (k + 1) (sent_before (k + 1) (length p)))
    (end_step (frame_total (length p)) (length p))

unfoldable pub raw_answer : ℕ → List ℕ → ℕ → Step
raw_answer id p zero = raw_step id 0 p
raw_answer id p (suc k) = end_step 0 (length p)

unfoldable pub message_answer : ℕ → FastPacketBuilder → List ℕ → ℕ → Step
message_answer id b p k = pick b.fast (fast_answer id b.sequence_id p k) (raw_answer id p k)
