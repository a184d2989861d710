-- Each promise of `builder` determines its answer: two that satisfy it are equal. Assumes nothing.
use Rattle.std.proofs.Common.{◌≡◌, ℕ, List, Option, Some, None, Result, Ok, Err, sym, refl, ap, ◌∙◌}
use Rattle.base.proofs.Cases.{determined}
use Rattle.can_id.specs.declared.CanFrame.{CanFrame}
use Rattle.can_id.specs.declared.CanIdBuildError.{CanIdBuildError}
use Rattle.can_id.proofs.Unique.{answers_unique}
use Rattle.builder.specs.Builder.{new_builder, with_sequence, with_priority, with_destination}
use Rattle.builder.specs.Next.{Step, of_answer, frame_in, of_next, next_of}
use Rattle.builder.specs.Frames.{Turn, started, turn_of, next_turn}
use Rattle.builder.specs.declared.FastPacketBuilder.{FastPacketBuilder}
use Rattle.builder.specs.declared.MadeBuilder.{MadeBuilder}
use Rattle.builder.specs.declared.Next.{Next}
use Rattle.builder.specs.declared.FrameIterator.{FrameIterator}
use Rattle.builder.specs.declared.Item.{Item}

-- ---- the builder and its setters
pub new_unique : (pgn source : ℕ) (to : Option ℕ) (payload pgns : List ℕ) (held : ℕ) (r s : MadeBuilder)
    → r ≡ new_builder pgn source to payload pgns held → s ≡ new_builder pgn source to payload pgns held → r ≡ s
new_unique pgn source to payload pgns held r s = determined

module _ (b : FastPacketBuilder) where
  pub with_sequence_id_unique : (n : ℕ) (r s : FastPacketBuilder) → r ≡ with_sequence b n → s ≡ with_sequence b n → r ≡ s
  with_sequence_id_unique n r s = determined

  pub with_priority_unique : (p : ℕ) (r s : FastPacketBuilder) → r ≡ with_priority b p → s ≡ with_priority b p → r ≡ s
  with_priority_unique p r s = determined

  pub to_destination_unique : (d : ℕ) (r s : FastPacketBuilder) → r ≡ with_destination b d → s ≡ with_destination b d → r ≡ s
  to_destination_unique d r s = determined

  pub build_unique : (r s : FrameIterator) → r ≡ started b → s ≡ started b → r ≡ s
  build_unique r s = determined

-- ---- the next frame: an answer's number and values, and the frame, give the answer back
abbrev Answered : Type 0
Answered = Result (Option CanFrame) CanIdBuildError

answers : (a b : Answered) → of_answer a ≡ of_answer b → frame_in a ≡ frame_in b → a ≡ b
answers (Ok (Some g)) (Ok (Some f)) e h = ap (λ (x : CanFrame). Ok (Some x)) h
answers (Ok (Some g)) (Ok None) e h = cc
answers (Ok (Some g)) (Err f) e h = cc
answers (Ok None) (Ok (Some f)) e h = cc
answers (Ok None) (Ok None) e h = refl
answers (Ok None) (Err f) e h = cc
answers (Err g) (Ok (Some f)) e h = cc
answers (Err g) (Ok None) e h = cc
answers (Err g) (Err f) e h = let b = answers_unique (Err g) (Err f) (cc) in cc

back : Answered → Step → Next
back a t = record { answer = a; frame_index = t.index; bytes_sent = t.bytes }

steps_unique : (r s : Next) → of_next r ≡ of_next s → r ≡ s
unfolding back
steps_unique r s q =
    ap (λ (a : Answered). back a (of_next r)) (answers r.answer s.answer (ap (λ (t : Step). t.kind) q) (ap (λ (t : Step). t.sent) q))
    ∙ ap (back s.answer) q

pub next_frame_unique : (b : FastPacketBuilder) (index sent : ℕ) (p : List ℕ) (r s : Next) → of_next r ≡ next_of b index sent p → of_next s ≡ next_of b index sent p → r ≡ s
next_frame_unique b index sent p r s e f = steps_unique r s (e ∙ sym f)

-- ---- the same of the iterator, whose answer is a step and the builder
step_in : Item → Next
step_in r = record { answer = r.answer; frame_index = r.iterator.frame_index; bytes_sent = r.iterator.bytes_sent }

item_of : FastPacketBuilder → Next → Item
item_of b n =
    record {
      iterator = record { builder = b; frame_index = n.frame_index; bytes_sent = n.bytes_sent };
      answer = n.answer;
    }

turns_unique : (r s : Item) → turn_of r ≡ turn_of s → r ≡ s
unfolding step_in item_of
turns_unique r s q =
    ap (λ (t : Turn). item_of t.builder (step_in r)) q
    ∙ ap (item_of s.iterator.builder) (steps_unique (step_in r) (step_in s) (ap (λ (t : Turn). t.answer) q))

pub next_unique : (it : FrameIterator) (p : List ℕ) (r s : Item) → turn_of r ≡ next_turn it p → turn_of s ≡ next_turn it p → r ≡ s
next_unique it p r s e f = turns_unique r s (e ∙ sym f)
