-- A record by value, lent from a local to a function over `&mut`, and joined to its answer: so that callers with a record by value are covered. Once for every record. The function is
--     fn through(pool: A, counters: C, list: &[R], x: X) -> O { let mut c = counters; let a = lent(pool, &mut c, list, x); joined(a, c) }
-- with any names, and `lent` a function that `Raises.antt` proves.
--     body      its MIR: locals 0 the result, 1 pool, 2 counters, 3 list, 4 x, 5 c, 6 a, 7 the reference, 8 the copy of c that is joined
--     through   its theorem: what the core gives, where `lent` says `told_of` and `kept_of` of it and `joined` is their inverse, so a promise that it keeps is kept
-- `laws` is that what a `&R` holds can be had twice and for a shorter time (the logic's `RowLaws`), which Rattle shows of each type: the list is passed on while it is still held.
-- Assumes nothing.
use mathlib.Core.Path.{◌≡◌, refl, ◌∙◌, ap}
use mathlib.Core.List.{List, [], ◌∷◌}
use mir.Syntax.{Ty, Body, Callee, Home, named, erased, imm, mut, ty_ref, copy, place, addr_of, rv_opd, assign, seq, return, call, value_local, memory_slot}
use prog.Routine as Rt
use types.Kit.{◌∵◌}
use contract.Lifetimes.{Lfts}
use denote.RattleType.{RattleType, RowLaws}
use denote.Memory.{pointee}
use denote.Triple.Clauses.{AtExit}
use borrow.Table.Rows.{mref, mleft, sc_owed}
use borrow.Table.Reads.{reads_mref}
use borrow.Rule.Slice.Shared.{reads_sslice}
use borrow.Fn.Kinds.{ParamKind, In, Out, Dens, p_mut, ty_r, ended_of}
use borrow.Fn.Enter.{tys_p}
use borrow.Fn.World.{World}
use borrow.Kind.ShrSlice.{p_shr_s, Spares-sslice}
use Rattle.walk.proofs.Walk as walk
use Rattle.walk.proofs.Walk.{Plain, Bench, bench, given, result, ty, mir_of, next, gone, returns, copies, calls, begins, ends, forgets, borrows, record_back, held, yields, room, empty, same}

module _ (A C X O B : Plain) (R : RattleType) (k_lent k_joined : Callee) where
  abbrev pub ps : List (ParamKind 1)
  ps = given A ∷ given C ∷ p_shr_s R 0 tt ∷ given X ∷ []

  abbrev τc : Ty
  τc = ty_ref erased mut (pointee (ty C).written)

  abbrev τl : Ty
  τl = ty_ref (named 0) imm (pointee R.written)

  abbrev pub xs : List Ty
  xs = mir_of C ∷ mir_of B ∷ τc ∷ mir_of C ∷ []

  abbrev pub hs : List Home
  hs = value_local ∷ value_local ∷ value_local ∷ value_local ∷ value_local ∷ memory_slot ∷ value_local ∷ value_local ∷ value_local ∷ []

  abbrev pub lent_ps : List (ParamKind 2)
  lent_ps = given A ∷ p_mut (ty C) 0 tt ∷ p_shr_s R 1 tt ∷ given X ∷ []

  abbrev pub both : List (ParamKind 0)
  both = given B ∷ given C ∷ []

  abbrev pub body : Body
  body =
      seq (assign (place 5 []) (rv_opd (copy (place 2 []))))
      (seq (assign (place 7 []) (addr_of (place 5 [])))
      (seq (call k_lent (copy (place 1 []) ∷ copy (place 7 []) ∷ copy (place 3 []) ∷ copy (place 4 []) ∷ []) (place 6 []))
      (seq (assign (place 8 []) (rv_opd (copy (place 5 []))))
      (seq (call k_joined (copy (place 6 []) ∷ copy (place 8 []) ∷ []) (place 0 []))
      return))))

  module _ (laws : RowLaws R) (P₁ : In 2 lent_ps) (Q₁ : Out 2 lent_ps (result B)) (P₂ : In 0 both) (Q₂ : Out 0 both (result O))
      (core_of : (ty A).Denot → (ty C).Denot → List R.Denot → (ty X).Denot → (ty O).Denot) (kept_of : (ty O).Denot → (ty C).Denot) (told_of : (ty O).Denot → (ty B).Denot) (joined_of : (ty B).Denot → (ty C).Denot → (ty O).Denot)
      (w : World) (γ : Rt.Env) (known_lent : walk.Knows 2 lent_ps (result B) P₁ Q₁ w γ k_lent) (known_joined : walk.Knows 0 both (result O) P₂ Q₂ w γ k_joined) where
    abbrev derives : walk.Walks 1 ps (result O) xs 1 body w γ
    derives κs qs bs =
        let K : Bench = bench w γ (ty_r (result {n = 1} O) ∷ tys_p ps xs) bs in
        -- c = counters, lent at the slot 1
        next (copies C 2 5 (λ x. x) (λ x. x) (yields K C) (empty K (mir_of C)) refl refl) ∵
        begins 1 (tt, (tt, (tt, (tt, (tt, (tt, (tt, (tt, (tt, tt))))))))) ∵
        next (borrows C 5 7 1 τc (λ x. x) (held K C) (empty K τc) refl (λ b o. tt)) ∵
        next (calls lent_ps (result B) P₁ Q₁ k_lent known_lent
        (record { pos = 1; st = []; d = 0; at = λ x. x }, (record { pos = 7; ty = τc; ref = λ x. x }, (record { pos = 3; ty = τl; ref = λ x. x }, (record { pos = 4; st = []; d = 0; at = λ x. x }, tt)))) 6 (1 ∷ 0 ∷ [])
        ((yields K A, refl), (same K (mref (ty C) τc 1), reads_mref K.𝓛 (ty C) τc 1, refl, (laws, Spares-sslice K.𝓛 R laws τl 0, reads_sslice K.𝓛 R τl 0, refl, ((yields K X, refl), tt))))
        (empty K (mir_of B)) (tt, (tt, tt)) refl) ∵
        ends 1 refl ∵
        record_back C 7 5 1 τc (λ x. x) (λ x. x) (same K (mleft (ty C) τc)) (same K (sc_owed (ty C) 1)) refl ∵
        forgets 1 refl ∵
        -- joined(a, c)
        next (copies C 5 8 (λ x. x) (λ x. x) (yields K C) (empty K (mir_of C)) refl refl) ∵
        next (calls both (result O) P₂ Q₂ k_joined known_joined
        (record { pos = 6; st = []; d = 0; at = λ x. x }, (record { pos = 8; st = []; d = 0; at = λ x. x }, tt)) 0 [] ((yields K B, refl), ((yields K C, refl), tt)) (empty K (mir_of O)) tt refl) ∵
        gone 1 (mir_of A) (room K A) ∵
        gone 2 (mir_of C) (room K C) ∵
        gone 4 (mir_of X) (room K X) ∵
        gone 5 (mir_of C) (room K C) ∵
        gone 6 (mir_of B) (room K B) ∵
        gone 8 (mir_of C) (room K C) ∵
        returns tt

    -- the answer and the record of one outcome, joined, are that outcome
    rejoins : (back : (o : (ty O).Denot) → joined_of (told_of o) (kept_of o) ≡ o) (o z : (ty O).Denot) (p : (ty B).Denot) (c : (ty C).Denot) → z ≡ joined_of p c → p ≡ told_of o → c ≡ kept_of o → z ≡ o
    rejoins back o z p c made told kept = made ∙ ap (λ (q : (ty B).Denot). joined_of q c) told ∙ ap (joined_of (told_of o)) kept ∙ back o

    module _ (asked₁ : (κs : Lfts 2) (a : Dens κs lent_ps) → P₁ κs a)
        (says₁ : (κs : Lfts 2) (a : Dens κs lent_ps) (z : (ty B).Denot) (e : AtExit (ended_of 2 lent_ps (result B)) κs) → Q₁ κs a z e
        → (z ≡ told_of (core_of a.0 a.1.0.now a.1.1.0.now a.1.1.1.0)) × (e.1.0.now ≡ kept_of (core_of a.0 a.1.0.now a.1.1.0.now a.1.1.1.0)))
        (asked₂ : (a : Dens tt both) → P₂ tt a) (says₂ : (a : Dens tt both) (z : (ty O).Denot) (e : AtExit (ended_of 0 both (result O)) tt) → Q₂ tt a z e → z ≡ joined_of a.0 a.1.0)
        (back : (o : (ty O).Denot) → joined_of (told_of o) (kept_of o) ≡ o)
        (Promise : (ty A).Denot → (ty C).Denot → List R.Denot → (ty X).Denot → (ty O).Denot → Type 0)
        (kept : (p : (ty A).Denot) (c : (ty C).Denot) (l : List R.Denot) (x : (ty X).Denot) (z : (ty O).Denot) → z ≡ core_of p c l x → Promise p c l x z) where
      abbrev Post : Out 1 ps (result O)
      Post κs a z e = Promise a.0 a.1.0 a.1.1.0.now a.1.1.1.0 z

      pub through : (key : Callee) → walk.Is 1 ps (result O) xs 1 hs body w γ key → walk.Proved 1 ps (result O) Post w γ (γ key)
      through key is = walk.proves 1 ps (result O) Post w γ key xs 1 hs body is derives
          (λ κs qs a good bs lent. (
            (λ _. asked₁ _ _),
            (λ heard. (
              refl,
              (
                (λ _. asked₂ _),
                (λ made. (
                  (tt, (tt, (refl, (tt, tt)))),
                  kept a.0 a.1.0 a.1.1.0.now a.1.1.1.0 _ (rejoins back (core_of a.0 a.1.0 a.1.1.0.now a.1.1.1.0) made.1 heard.1 heard.2.1.0 (says₂ _ _ _ made.5) (says₁ _ _ _ _ heard.5).0 (says₁ _ _ _ _ heard.5).1),
                )),
              ),
            )),
          ))
