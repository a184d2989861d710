-- The numbers by which document 01's own tests of a row answer: 0, or 20 to 26 of its frames, 27 where there is no room, 32 without a claim, and 33 to 37 of its messages. What holds
-- of these numbers holds of each answer.
--     messages-coded   the row        room-coded   what is lent        transmission-coded   what a transmit test asks of it
-- Assumes nothing.
use Prim.Native.Nat.{ℕ, ◌+◌, ◌≤◌}
use mathlib.Core.List.{List, [], ◌∷◌}
use mathlib.Core.Option.{Option, none, some}
use native.Mathlib.Omega.{arith}
use Rattle.base.specs.Answer.{Answer, gives, refuses, code_of}
use Rattle.base.proofs.Cases.{pick_all}
use Rattle.oracle.specs.Strict.{BenchMessage, OpenMessage, FrameOutcome, refused, waits, whole, collected_at, first_frame, later_frame, outcome_of, before, then_of, end_of, messages_from, room_for}
use Rattle.oracle.specs.Check.{each_from, sent_of, transmission_of}
use Rattle.splitter.specs.declared.Frame.{Frame}

module _ (P : ℕ → Type 0) (zeroth : P 0) where
  abbrev Coded : {A : Type 0} → Answer A → Type 0
  Coded a = P (code_of a)

  -- ---- the row
  module _ (frames : (k : ℕ) → 20 ≤ k → k ≤ 26 → P k) where
    -- what a frame leads to
    abbrev CodedOutcome : FrameOutcome → Type 0
    CodedOutcome (refused k vs) = P k
    CodedOutcome (waits o) = Unit {0}
    CodedOutcome (whole m) = Unit {0}

    collected_coded : (n : ℕ) (o : OpenMessage) → CodedOutcome (collected_at n o)
    unfolding collected_at
    collected_coded n o = pick_all CodedOutcome _ tt (pick_all CodedOutcome _ tt (frames 25 (omega arith) (omega arith)))

    first_coded : (n : ℕ) (o : Option OpenMessage) (bs : List ℕ) → CodedOutcome (first_frame n o bs)
    unfolding first_frame
    first_coded n (some o) bs = frames 21 (omega arith) (omega arith)
    first_coded n none bs =
        let announced : P 22 = frames 22 (omega arith) (omega arith) in
        pick_all CodedOutcome _ announced (pick_all CodedOutcome _ announced (collected_coded n _))

    later_coded : (n : ℕ) (o : Option OpenMessage) (bs : List ℕ) → CodedOutcome (later_frame n o bs)
    unfolding later_frame
    later_coded n none bs = frames 23 (omega arith) (omega arith)
    later_coded n (some o) bs =
        let wrong : P 24 = frames 24 (omega arith) (omega arith) in
        pick_all CodedOutcome _ (pick_all CodedOutcome _ (collected_coded n _) wrong) wrong

    outcome_coded : (n : ℕ) (o : Option OpenMessage) (bs : List ℕ) (len : ℕ) → CodedOutcome (outcome_of n o bs len)
    unfolding outcome_of
    outcome_coded n o bs len =
        pick_all CodedOutcome _ (pick_all CodedOutcome _ (first_coded n o bs) (later_coded n o bs)) (frames 20 (omega arith) (omega arith))

    before_coded : (m : BenchMessage) (a : Answer (List BenchMessage)) → P (code_of a) → P (code_of (before m a))
    unfolding before
    before_coded m (gives ms) h = zeroth
    before_coded m (refuses k vs) h = h

    then_coded : (f : FrameOutcome) (rest : Option OpenMessage → Answer (List BenchMessage)) → CodedOutcome f → ((o : Option OpenMessage) → P (code_of (rest o))) → P (code_of (then_of f rest))
    unfolding then_of
    then_coded (refused k vs) rest h r = h
    then_coded (waits o) rest h r = r (some o)
    then_coded (whole m) rest h r = before_coded m (rest none) (r none)

    end_coded : (o : Option OpenMessage) → P (code_of (end_of o))
    unfolding end_of
    end_coded none = zeroth
    end_coded (some o) = frames 26 (omega arith) (omega arith)

    pub messages_coded : (source pgn n : ℕ) (o : Option OpenMessage) (fs : List Frame) → P (code_of (messages_from source pgn n o fs))
    unfolding messages_from
    messages_coded source pgn n o [] = end_coded o
    messages_coded source pgn n o (f ∷ fs) =
        pick_all Coded _ (messages_coded source pgn (n + 1) o fs)
        (then_coded _ _ (outcome_coded n o _ f.len) (λ o'. messages_coded source pgn (n + 1) o' fs))

  -- ---- what is lent
  pub room_coded : P 27 → (numbers space : ℕ) (a : Answer (List BenchMessage)) → P (code_of a) → P (code_of (room_for numbers space a))
  unfolding room_for
  room_coded short numbers space (refuses k vs) h = h
  room_coded short numbers space (gives ms) h = pick_all Coded _ short (pick_all Coded _ short zeroth)

  -- ---- the messages of a transmit test
  module _ (messages : (k : ℕ) → 33 ≤ k → k ≤ 37 → P k) where
    each_coded : (base i : ℕ) (previous : Option ℕ) (ms : List BenchMessage) → P (code_of (each_from base i previous ms))
    unfolding each_from
    each_coded base i previous [] = zeroth
    each_coded base i previous (m ∷ ms) =
        pick_all Coded _
        (pick_all Coded _
        (pick_all Coded _ (messages 36 (omega arith) (omega arith))
        (pick_all Coded _ (each_coded base (i + 1) (some m.sequence) ms)
        (messages 37 (omega arith) (omega arith))))
        (messages 35 (omega arith) (omega arith)))
        (messages 34 (omega arith) (omega arith))

    sent_coded : (expected base : ℕ) (a : Answer (List BenchMessage)) → P (code_of a) → P (code_of (sent_of expected base a))
    unfolding sent_of
    sent_coded expected base (refuses k vs) h = h
    sent_coded expected base (gives ms) h = pick_all Coded _ (each_coded base 0 none ms) (messages 33 (omega arith) (omega arith))

  pub transmission_coded : ((k : ℕ) → 20 ≤ k → k ≤ 26 → P k) → P 32 → ((k : ℕ) → 33 ≤ k → k ≤ 37 → P k) → (fs : List Frame) (source expected base : ℕ) → P (code_of (transmission_of fs source expected base))
  unfolding transmission_of
  transmission_coded frames unclaimed messages fs source expected base =
      pick_all Coded _ (sent_coded messages expected base _ (messages_coded frames source 127489 0 none fs)) unclaimed
