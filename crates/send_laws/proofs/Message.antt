-- Asked again and again from the start, a builder gives the frames of its message one by one, and then End. Assumes nothing.
use Prim.Native.Nat.{ℕ, zero, suc, ◌+◌, ◌*◌, ◌-◌, ◌%◌, ◌<◌, ◌≤◌, min}
use mathlib.Core.List.{List}
use Rattle.std.proofs.Common.{Option}
use mathlib.Core.Path.{◌≡◌, refl, ap, ◌∙◌}
use mathlib.Core.Bool.{Bool, true, false, ◌||◌}
use native.Mathlib.Numerals.{add-one}
use native.Mathlib.Omega.{arith}
use borrow.Author.Tests.{lt-ltb, le-ltb, le-leb, lt-leb, ne_eqb, ltb-false}
use lib.ListN.{length}
use lib.Dec.{ltb}
use Rattle.base.specs.Pick.{pick}
use Rattle.base.specs.Answer.{gives}
use Rattle.base.proofs.Cases.{less?}
use Rattle.can_id.specs.Build.{build_of}
use Rattle.fast_packet.specs.FastPacket.{max_payload, listed_in}
use Rattle.builder.specs.Builder.{fast_of, new_builder, id_builder}
use Rattle.builder.specs.FrameBytes.{later_frame_bytes}
use Rattle.builder.specs.Next.{Step, frame_of, next_of, sent_step, end_step, framed_step, raw_step}
use Rattle.builder.specs.Frames.{started, next_turn}
use Rattle.send_laws.specs.Message.{iterator_of, place_after, answer_at, frame_total, sent_before, message_bytes, fast_answer, raw_answer, message_answer}
use Rattle.builder.specs.declared.FastPacketBuilder.{FastPacketBuilder}
use Rattle.builder.specs.declared.FrameIterator.{FrameIterator}

-- "Marked not fast with over 8 bytes, which no new builder is"
pub new_raw_short : (pgn : ℕ) (pgns : List ℕ) (n : ℕ) → fast_of pgn pgns n ≡ false → n ≤ 8
new_raw_short pgn pgns n e = by (listed_in pgn pgns) e
  where
    by : (t : Bool) → (t || ltb 8 n) ≡ false → n ≤ 8
    by true h = let z : ◌≡◌ {A = ℕ} 0 1 = cc in absurd (omega arith)
    by false h = ltb-false 8 n h

-- ---- the number of frames, by the bytes sent
left : (k n : ℕ) → 1 ≤ n → k < frame_total n → 7 * k - 1 < n
left k n some h = omega arith

all_sent : (k n : ℕ) → frame_total n ≤ k → sent_before k n ≡ n
all_sent k n h = omega arith

under : (k n : ℕ) → k ≤ n → min k n ≡ k
under k n h = omega arith

capped : (k n : ℕ) → n ≤ k → min k n ≡ n
capped k n h = omega arith

-- ---- the answers
abbrev pub at : FastPacketBuilder → ℕ → ℕ → FrameIterator
at b index sent = record { builder = b; frame_index = index; bytes_sent = sent }

module _ (b : FastPacketBuilder) (id : ℕ) (p : List ℕ) (g : build_of (id_builder b) ≡ gives id) (some : 1 ≤ length p) (few : length p ≤ max_payload) where
  -- steps 1 to 3 are passed while bytes are left
  ready : (index sent : ℕ) → sent < length p → next_of b index sent p ≡ framed_step id b index sent p
  unfolding next_of pick
  ready index sent h = simp (ne_eqb (length p) 0 (λ e. omega arith), lt-leb (length p) sent h, g)

  over : (index : ℕ) → next_of b index (length p) p ≡ end_step index (length p)
  unfolding next_of pick
  over index = simp (ne_eqb (length p) 0 (λ z. omega arith), le-leb (length p) (length p) (omega arith))

  -- ---- a fast message
  module _ (f : b.fast ≡ true) where
    frame_at : (k : ℕ) → 7 * k - 1 < length p
        → next_of b k (sent_before k (length p)) p ≡ sent_step (frame_of id (message_bytes b.sequence_id k p) 8) (k + 1) (sent_before (k + 1) (length p))
    unfolding framed_step pick
    frame_at zero h =
        let e : min (7 * 0 - 1) (length p) ≡ 0 = omega arith in
        rw e (ready 0 0 some ∙ simp (le-ltb max_payload (length p) few, f))
    frame_at (suc k) h =
        let s : ℕ = 7 * suc k - 1 in
        let e : min s (length p) ≡ s = omega arith in
        let i : (suc k + 1) % 256 ≡ suc k + 1 = omega arith in
        let t : s + min 7 (length p - s) ≡ min (7 * (suc k + 1) - 1) (length p) = omega arith in
        rw e (ready (suc k) s h ∙ simp (le-ltb max_payload (length p) few, f, ne_eqb s 0 (λ z. omega arith), i, t))

    -- by the number of frames
    frame_of_lem : (k : ℕ) → k < frame_total (length p) → next_of b k (sent_before k (length p)) p ≡ fast_answer id b.sequence_id p k
    unfolding fast_answer pick
    frame_of_lem k h = simp (lt-ltb k (frame_total (length p)) h) (frame_at k (left k (length p) some h))

    end_of : (k : ℕ) → frame_total (length p) ≤ k → next_of b (frame_total (length p)) (sent_before k (length p)) p ≡ fast_answer id b.sequence_id p k
    unfolding fast_answer pick
    end_of k h = rw (all_sent k (length p) h, le-ltb k (frame_total (length p)) h) (over (frame_total (length p)))

    -- where the iterator stands after k questions
    turn : (k : ℕ)
        → iterator_of (next_turn (at b (min k (frame_total (length p))) (sent_before k (length p))) p)
        ≡ at b (min (suc k) (frame_total (length p))) (sent_before (suc k) (length p))
    turn k =
        let n : ℕ = frame_total (length p) in
        less? k n
        (λ h.
        rw (under k n (omega arith), under (suc k) n h, ← add-one k)
        (ap (λ (t : Step). at b t.index t.bytes) (frame_at k (left k (length p) some h))))
        (λ h.
        rw (capped k n h, capped (suc k) n (omega arith), all_sent k (length p) h, all_sent (suc k) (length p) (omega arith))
        (ap (λ (t : Step). at b t.index t.bytes) (over n)))

    pub fast_after : (k : ℕ) → place_after k (started b) p ≡ at b (min k (frame_total (length p))) (sent_before k (length p))
    unfolding place_after
    fast_after zero =
        let e : min 0 (frame_total (length p)) ≡ 0 = omega arith in
        let l : min (7 * 0 - 1) (length p) ≡ 0 = omega arith in
        rw (e, l)
    fast_after (suc k) = ap (λ (it : FrameIterator). iterator_of (next_turn it p)) (fast_after k) ∙ turn k

    pub fast_message : (k : ℕ) → answer_at b p k ≡ fast_answer id b.sequence_id p k
    fast_message k =
        ap (λ (it : FrameIterator). (next_turn it p).answer) (fast_after k)
        ∙ less? k (frame_total (length p))
        (λ h. rw (under k (frame_total (length p)) (omega arith)) (frame_of_lem k h))
        (λ h. rw (capped k (frame_total (length p)) h) (end_of k h))

  -- ---- a raw one
  module _ (f : b.fast ≡ false) (short : length p ≤ 8) where
    raw_first : next_of b 0 0 p ≡ raw_step id 0 p
    unfolding framed_step pick
    raw_first = ready 0 0 some ∙ simp (le-ltb max_payload (length p) few, f, le-ltb 8 (length p) short)

    pub raw_after : (k : ℕ) → place_after (suc k) (started b) p ≡ at b 0 (length p)
    unfolding place_after
    raw_after zero = ap (λ (t : Step). at b t.index t.bytes) raw_first
    raw_after (suc k) =
        ap (λ (it : FrameIterator). iterator_of (next_turn it p)) (raw_after k)
        ∙ ap (λ (t : Step). at b t.index t.bytes) (over 0)

    pub raw_message : (k : ℕ) → answer_at b p k ≡ raw_answer id p k
    unfolding raw_answer place_after
    raw_message zero = raw_first
    raw_message (suc k) = ap (λ (it : FrameIterator). (next_turn it p).answer) (raw_after k) ∙ over 0

  -- ---- the whole message of every builder that has an identifier and a payload of 1 to 223 bytes
  pub message : (b.fast ≡ false → length p ≤ 8) → (k : ℕ) → answer_at b p k ≡ message_answer id b p k
  unfolding message_answer pick
  message short k = by b.fast refl
    where
      by : (t : Bool) → b.fast ≡ t → answer_at b p k ≡ pick t (fast_answer id b.sequence_id p k) (raw_answer id p k)
      by true f = fast_message f k
      by false f = raw_message f (short f) k

  -- "223 bytes: 32 frames, last index 31"
  pub longest : b.fast ≡ true → length p ≡ max_payload
      → (answer_at b p 31 ≡ sent_step (frame_of id (later_frame_bytes b.sequence_id 31 216 p) 8) 32 max_payload) × (answer_at b p 32 ≡ end_step 32 max_payload)
  unfolding fast_answer pick
  longest f l = (fast_message f 31 ∙ rw l, fast_message f 32 ∙ rw l)

-- ---- so of every new builder
module _ (pgn source : ℕ) (to : Option ℕ) (p pgns : List ℕ) (held : ℕ) where
  abbrev new : FastPacketBuilder
  new = (new_builder pgn source to p pgns held).builder

  pub new_message_lem : (id : ℕ) → build_of (id_builder new) ≡ gives id → 1 ≤ length p → length p ≤ max_payload → (k : ℕ) → answer_at new p k ≡ message_answer id new p k
  new_message_lem id g some few = message new id p g some few (new_raw_short pgn pgns (length p))
