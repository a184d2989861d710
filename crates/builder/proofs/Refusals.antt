-- After a refusal comes End, and nothing changes any more. Assumes nothing.
use Rattle.std.proofs.Common.{◌≡◌, ℕ, eqb, leb, List, [], length, sym, subst, arith, eq-eqb, ne_eqb, le-leb}
use Rattle.base.specs.Pick.{pick}
use Rattle.base.specs.Answer.{Answer, gives, refuses}
use Rattle.base.proofs.Cases.{pick_all, same?}
use Rattle.can_id.specs.Build.{build_of}
use Rattle.builder.specs.Builder.{id_builder}
use Rattle.builder.specs.Next.{Step, NextAnswer, frame, end, refusal, end_step, refused_step, framed_step, built_step, next_of}
use Rattle.builder.specs.declared.FastPacketBuilder.{FastPacketBuilder}

abbrev pub Refusal : NextAnswer → Type 0
Refusal frame = ⊥
Refusal end = ⊥
Refusal (refusal n carried) = Unit {0}

module _ (b : FastPacketBuilder) (index sent : ℕ) (p : List ℕ) where
  -- a step that is a refusal is followed by End
  abbrev pub Ends : Step → Type 0
  Ends s = Refusal s.kind → next_of b s.index s.bytes p ≡ end_step s.index s.bytes

  module _ (h : length p ≡ 0) where
    empty : next_of b index sent p ≡ pick (eqb index 0) (refused_step 7 [] 1 sent) (end_step index sent)
    unfolding next_of pick
    empty = simp (eq-eqb (length p) 0 h)

    at_one : next_of b 1 sent p ≡ end_step 1 sent
    unfolding next_of pick
    at_one = simp (eq-eqb (length p) 0 h)

  module _ (h : length p ≡ 0 → ⊥) where
    over : next_of b index (length p) p ≡ end_step index (length p)
    unfolding next_of pick
    over = simp (ne_eqb (length p) 0 h, le-leb (length p) (length p) (omega arith))

    framed : (id : ℕ) → Ends (framed_step id b index sent p)
    unfolding framed_step
    framed id =
        pick_all Ends _ (λ t. over)
        (pick_all Ends _ (pick_all Ends _ (λ t. absurd t) (λ t. absurd t)) (pick_all Ends _ (λ t. over) (λ t. absurd t)))

    built : (a : Answer ℕ) → Ends (built_step a b index sent p)
    built (gives id) = framed id
    built (refuses n carried) = λ t. over

    filled : next_of b index sent p ≡ pick (leb (length p) sent) (end_step index sent) (built_step (build_of (id_builder b)) b index sent p)
    unfolding next_of pick
    filled = simp (ne_eqb (length p) 0 h)

  pub refused_then_end : Ends (next_of b index sent p)
  refused_then_end =
      same? (length p) 0
      (λ h. subst Ends (sym (empty h)) (pick_all Ends _ (λ t. at_one h) (λ t. absurd t)))
      (λ h. subst Ends (sym (filled h)) (pick_all Ends _ (λ t. absurd t) (built h (build_of (id_builder b)))))
