-- What the next frame is in each case, by plain facts: `search (needs, framing)` finds the case. Assumes nothing.
use Rattle.std.proofs.Common.{◌≡◌, ℕ, ◌%◌, ◌<◌, ◌≤◌, Bool, true, false, List, [], Result, Ok, Err, length, refl, ◌∙◌, arith, ne_eqb, le-leb}
use borrow.Author.Tests.{lt-leb, lt-ltb, le-ltb, eq-eqb}
use Rattle.base.specs.Pick.{pick}
use Rattle.base.proofs.Cases.{less?, same?}
use Rattle.can_id.specs.Build.{of_built, error_number, error_carries, build_of}
use Rattle.can_id.specs.declared.CanId.{CanId}
use Rattle.can_id.specs.declared.CanIdBuildError.{CanIdBuildError}
use Rattle.fast_packet.specs.FastPacket.{max_payload}
use Rattle.builder.specs.inner.Laid.{laid_of, laid_step}
use Rattle.builder.specs.declared.frame_bytes.Laid.{Laid}
use Rattle.builder.specs.Builder.{id_builder}
use Rattle.builder.specs.Next.{Step, end_step, refused_step, framed_step, built_step, next_of}
use Rattle.builder.specs.declared.FastPacketBuilder.{FastPacketBuilder}

-- ---- a new builder, as the code comes by its framing

-- ---- the steps
module _ (id : ℕ) (b : FastPacketBuilder) (index sent : ℕ) (p : List ℕ) {x : Step} where
  pub framed_long : max_payload < length p → x ≡ refused_step 2 [] index (length p) → x ≡ framed_step id b index sent p
  unfolding framed_step pick
  framed_long h e = e ∙ simp (lt-ltb max_payload (length p) h)

  pub framed_wide : b.fast ≡ false → 8 < length p → x ≡ refused_step 2 [] index (length p) → x ≡ framed_step id b index sent p
  framed_wide f h e =
      less? max_payload (length p)
      (λ g. framed_long g e)
      (λ g. unfold framed_step pick in e ∙ simp (le-ltb max_payload (length p) g, f, lt-ltb 8 (length p) h))

  sent_by : (f : Bool) {l : Laid} → b.fast ≡ f → length p ≤ max_payload → (f ≡ false → length p ≤ 8) → l ≡ laid_of b.fast b.sequence_id index sent p → x ≡ laid_step id l → x ≡ framed_step id b index sent p
  unfolding framed_step laid_of pick
  sent_by true q h short d e =
      let s : length p % 256 ≡ length p = omega (arith, h) in
      same? sent 0
      (λ z. e ∙ simp (d, q, s, eq-eqb sent 0 z, le-ltb max_payload (length p) h))
      (λ z. e ∙ simp (d, q, s, ne_eqb sent 0 z, le-ltb max_payload (length p) h))
  sent_by false q h short d e = e ∙ simp (d, q, le-ltb max_payload (length p) h, le-ltb 8 (length p) (short refl))

  pub framed_sent : {l : Laid} → length p ≤ max_payload → (b.fast ≡ false → length p ≤ 8) → l ≡ laid_of b.fast b.sequence_id index sent p → x ≡ laid_step id l → x ≡ framed_step id b index sent p
  framed_sent h short d e = sent_by b.fast refl h short d e

pub ruleset framing = (framed_long, framed_wide, framed_sent)

module _ (b : FastPacketBuilder) (index sent : ℕ) (p : List ℕ) {x : Step} where
  pub next_empty : length p ≡ 0 → index ≡ 0 → x ≡ refused_step 7 [] 1 sent → x ≡ next_of b index sent p
  unfolding next_of pick
  next_empty h i e = e ∙ simp (eq-eqb (length p) 0 h, eq-eqb index 0 i)

  pub next_end : (length p ≡ 0 → index ≡ 0 → ⊥) → length p ≤ sent → x ≡ end_step index sent → x ≡ next_of b index sent p
  unfolding next_of pick
  next_end h k e =
      same? (length p) 0
      (λ z. e ∙ simp (eq-eqb (length p) 0 z, ne_eqb index 0 (h z)))
      (λ z. e ∙ simp (ne_eqb (length p) 0 z, le-leb (length p) sent k))

module _ (b : FastPacketBuilder) (index sent : ℕ) (p : List ℕ) (k : sent < length p) (r : Result CanId CanIdBuildError) (a : of_built r ≡ build_of (id_builder b)) where
  built : next_of b index sent p ≡ built_step (of_built r) b index sent p
  unfolding next_of pick
  built =
      let z : length p ≡ 0 → ⊥ = λ h. omega arith in
      simp (ne_eqb (length p) 0 z, lt-leb (length p) sent k, ← a)

  pub next_framed : {x : Step} (i : CanId) → r ≡ Ok i → x ≡ framed_step i.0 b index sent p → x ≡ next_of b index sent p
  next_framed i q e = e ∙ rw (built, q)

  pub next_refused : {x : Step} (f : CanIdBuildError) → r ≡ Err f → x ≡ refused_step (error_number f) (error_carries f) index (length p) → x ≡ next_of b index sent p
  next_refused f q e = e ∙ rw (built, q)

pub ruleset asking = (next_empty, next_end, next_framed)
