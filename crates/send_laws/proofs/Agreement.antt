-- The bench's readings of identifiers and its framing of payloads agree with the product's, for every number and every payload of 1 to 223 bytes. Assumes nothing.
use Prim.Native.Nat.{ℕ, zero, suc, ◌+◌, ◌-◌, ◌<◌, ◌≤◌}
use mathlib.Core.List.{List, [], ◌∷◌, ◌++◌, append-nil}
use mathlib.Core.Path.{◌≡◌, refl, sym, ap, ◌∙◌}
use mathlib.Core.Bool.{true}
use native.Mathlib.Nat.{add-zero, zero-add}
use native.Mathlib.Omega.{arith}
use borrow.Author.Tests.{lt-ltb, le-ltb, ne_eqb}
use lib.ListN.{length}
use Rattle.base.specs.Pick.{pick}
use Rattle.base.specs.Answer.{gives}
use Rattle.base.proofs.Cases.{less?}
use Rattle.can_id.specs.Layout.{pf_of, pgn_of}
use Rattle.can_id.specs.Read.{read_of}
use Rattle.can_id.specs.Build.{build_of}
use Rattle.can_id.proofs.LayoutLaws.{pgn_addressed, pgn_broadcast}
use Rattle.fast_packet.specs.FastPacket.{max_payload}
use Rattle.builder.specs.Builder.{id_builder}
use Rattle.builder.specs.Next.{Step}
use Rattle.builder.specs.declared.FastPacketBuilder.{FastPacketBuilder}
use Rattle.splitter.specs.Frames.{is_wide}
use Rattle.splitter.specs.Bytes.{split_bytes, split_frame, count_of}
use Rattle.splitter.specs.Split.{split_frames_from, split_frames}
use Rattle.splitter.specs.declared.Frame.{Frame}
use Rattle.oracle.specs.Ids.{bench_pgn}
use Rattle.send_laws.specs.Message.{answer_at, frame_total, message_bytes, fast_answer}
use Rattle.send_laws.specs.Agreement.{ReadingsAgree, frame_if_any, sent_frames, FramingsAgree}
use Rattle.send_laws.proofs.Message.{fast_message}

-- ---- the two readings of an identifier
same_pgn : (id : ℕ) → bench_pgn id ≡ pgn_of id
unfolding bench_pgn pick
same_pgn id =
    less? (pf_of id) 240
    (λ h. simp (lt-ltb (pf_of id) 240 h) (pgn_addressed id h))
    (λ h. simp (le-ltb (pf_of id) 240 h) (pgn_broadcast id h))

pub readings_agree : (id : ℕ) → ReadingsAgree id
unfolding read_of is_wide
readings_agree id = record { width = refl; source = refl; pgn = same_pgn id }

-- ---- the two framings of a payload
-- as many frames
same_count : (n : ℕ) → frame_total n ≡ count_of n
same_count n = omega arith

-- the same bytes in each
same_bytes : (sequence : ℕ) (p : List ℕ) (k : ℕ) → message_bytes sequence k p ≡ split_bytes sequence p k
unfolding split_bytes pick
same_bytes sequence p zero = refl
same_bytes sequence p (suc k) = simp (ne_eqb (suc k) 0 (λ e. omega arith))

-- one frame more at the end
one_more : (id sequence : ℕ) (p : List ℕ) (n i : ℕ) → split_frames_from id sequence p i (suc n) ≡ split_frames_from id sequence p i n ++ (split_frame id sequence p (i + n) ∷ [])
one_more id sequence p zero i = ap (λ (j : ℕ). split_frame id sequence p j ∷ []) (sym (add-zero i))
one_more id sequence p (suc n) i =
    let e : suc i + n ≡ i + suc n = omega arith in
    ap (λ (l : List Frame). split_frame id sequence p i ∷ l)
    (one_more id sequence p n (suc i) ∙ ap (λ (j : ℕ). split_frames_from id sequence p (suc i) n ++ (split_frame id sequence p j ∷ [])) e)

module _ (b : FastPacketBuilder) (id : ℕ) (p : List ℕ) (g : build_of (id_builder b) ≡ gives id) (some : 1 ≤ length p) (few : length p ≤ max_payload) (f : b.fast ≡ true) where
  abbrev sequence : ℕ
  sequence = b.sequence_id

  abbrev given : Step → List Frame
  given s = frame_if_any s.kind s.sent

  -- what an answer adds
  adds : (k : ℕ) → k < frame_total (length p) → given (answer_at b p k) ≡ split_frame id sequence p k ∷ []
  unfolding fast_answer pick split_frame
  adds k h =
      ap given (fast_message b id p g some few f k)
      ∙ simp (lt-ltb k (frame_total (length p)) h) (ap (λ (d : List ℕ). record { id = id; «data» = d; len = 8 } ∷ []) (same_bytes sequence p k))

  adds_none : (k : ℕ) → frame_total (length p) ≤ k → given (answer_at b p k) ≡ []
  unfolding fast_answer pick
  adds_none k h = ap given (fast_message b id p g some few f k) ∙ simp (le-ltb k (frame_total (length p)) h)

  -- by the number of answers
  front : (n : ℕ) → n ≤ frame_total (length p) → sent_frames b p n ≡ split_frames_from id sequence p 0 n
  unfolding sent_frames
  front zero h = refl
  front (suc n) h =
      ap (λ (l : List Frame). l ++ given (answer_at b p n)) (front n (omega arith))
      ∙ ap (λ (l : List Frame). split_frames_from id sequence p 0 n ++ l) (adds n h ∙ ap (λ (j : ℕ). split_frame id sequence p j ∷ []) (sym (zero-add n)))
      ∙ sym (one_more id sequence p n 0)

  no_more : (n : ℕ) → frame_total (length p) ≤ n → sent_frames b p (suc n) ≡ sent_frames b p n
  unfolding sent_frames
  no_more n h = ap (λ (l : List Frame). sent_frames b p n ++ l) (adds_none n h) ∙ append-nil (sent_frames b p n)

  beyond : (k : ℕ) → sent_frames b p (k + frame_total (length p)) ≡ sent_frames b p (frame_total (length p))
  beyond zero = ap (sent_frames b p) (zero-add (frame_total (length p)))
  beyond (suc k) =
      let e : suc k + frame_total (length p) ≡ suc (k + frame_total (length p)) = omega arith in
      ap (sent_frames b p) e ∙ no_more (k + frame_total (length p)) (omega arith) ∙ beyond k

  agree : (n : ℕ) → frame_total (length p) ≤ n → sent_frames b p n ≡ split_frames id sequence p
  agree n h =
      let e : n ≡ n - frame_total (length p) + frame_total (length p) = omega arith in
      ap (sent_frames b p) e ∙ beyond (n - frame_total (length p)) ∙ front (frame_total (length p)) (omega arith)
      ∙ ap (split_frames_from id sequence p 0) (same_count (length p))

pub framings_agree : (b : FastPacketBuilder) (id : ℕ) (p : List ℕ) → FramingsAgree b id p
framings_agree b id p f g some few = agree b id p g some few f
