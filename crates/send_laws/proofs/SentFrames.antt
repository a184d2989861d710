-- The identifier of every frame that a builder gives, at any index and after any bytes sent, is read as what the builder was asked for.
--     frame_read     priority modulo 8, PGN, source and destination; so it is never too wide
-- Assumes nothing.
use Prim.Native.Nat.{ℕ, ◌<◌}
use mathlib.Core.List.{List}
use mathlib.Core.Path.{◌≡◌, refl}
use native.Mathlib.Omega.{arith}
use Rattle.base.specs.Answer.{Answer, gives, refuses}
use Rattle.base.proofs.Cases.{pick_all}
use Rattle.can_id.specs.Read.{read_of}
use Rattle.can_id.specs.Build.{build_of}
use Rattle.builder.specs.Builder.{id_builder}
use Rattle.builder.specs.Next.{frame, end, refusal, Step, framed_step, built_step, next_of}
use Rattle.builder.specs.declared.FastPacketBuilder.{FastPacketBuilder}
use Rattle.send_laws.specs.Parts.{parts_in}
use Rattle.send_laws.proofs.RoundTrip.{Byte, read_built}

ended : {A : Type 0} → end ≡ frame → A
ended h = let z : ◌≡◌ {A = ℕ} 0 1 = cc in absurd (omega arith)

refused : {A : Type 0} {n : ℕ} {carried : List ℕ} → refusal n carried ≡ frame → A
refused h = let z : ◌≡◌ {A = ℕ} 0 1 = cc in absurd (omega arith)

module _ (b : FastPacketBuilder) (source : b.source_address < 256) (to : Byte b.destination) where
  -- of a step: if it gives a frame
  abbrev Reads : Step → Type 0
  Reads t = t.kind ≡ frame → read_of t.sent.id.0 ≡ gives (parts_in (id_builder b))

  -- steps 3 to 6
  built : (index sent : ℕ) (p : List ℕ) (a : Answer ℕ) → build_of (id_builder b) ≡ a → Reads (built_step a b index sent p)
  unfolding framed_step
  built index sent p (gives id) e =
      let reads : read_of id ≡ gives (parts_in (id_builder b)) = read_built (id_builder b) id source to e in
      pick_all Reads _ refused
      (pick_all Reads _ (pick_all Reads _ (λ h. reads) (λ h. reads))
      (pick_all Reads _ refused (λ h. reads)))
  built index sent p (refuses n carried) e = refused

  pub frame_read : (index sent : ℕ) (p : List ℕ) → (next_of b index sent p).kind ≡ frame → read_of (next_of b index sent p).sent.id.0 ≡ gives (parts_in (id_builder b))
  unfolding next_of
  frame_read index sent p =
      pick_all Reads _ (pick_all Reads _ refused ended)
      (pick_all Reads _ ended (built index sent p (build_of (id_builder b)) refl))
