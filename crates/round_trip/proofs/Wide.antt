-- 29 is given with n exactly where n is the first frame whose identifier is 2^29 or more; where none is, both bench calls answer as document 01 has it.
--     first_wide_lem, is_first, none_wide, is_none    the definition's search is that place
--     reassembly_29, reassembly_only              strict reassembly: whatever else the row holds, and whatever is lent
--     check_29, check_only                        the transmit check, after 30 and 31
--     reassembly_still, check_still               without such a frame
-- Assumes nothing.
use Prim.Native.Nat.{ℕ, zero, suc, ◌+◌, ◌-◌, ◌<◌, ◌≤◌}
use mathlib.Core.List.{List, [], ◌∷◌}
use mathlib.Core.Logic.{◌≢◌}
use mathlib.Core.Option.{Option, none, some}
use mathlib.Core.Path.{◌≡◌, refl, sym, ap, ◌∙◌, subst}
use native.Mathlib.Omega.{arith}
use lib.ListN.{length}
use Rattle.base.specs.Answer.{Answer, refuses, code_of}
use Rattle.base.proofs.Cases.{less?, same?, when_eq, when_ne, when_lt, when_ge, when_le, when_gt}
use Rattle.splitter.specs.Frames.{is_wide}
use Rattle.splitter.specs.Split.{ids_of}
use Rattle.splitter.specs.declared.Frame.{Frame}
use Rattle.oracle.specs.Strict.{messages_of, first_wide, wide_first, room_for, delivered_to}
use Rattle.oracle.specs.Check.{transmission_of, check_tx_of}
use Rattle.oracle.proofs.Codes.{messages_coded, room_coded, transmission_coded}
use Rattle.round_trip.specs.Wide.{id_at, IsFirstWide, NoneWide}

-- ---- the search along a row whose first frame is frame i
module _ (f : Frame) (fs : List Frame) (i : ℕ) where
  here : 0x2000_0000 ≤ f.id → first_wide i (f ∷ fs) ≡ some i
  unfolding first_wide is_wide
  here h = sym (when_le _ _ h refl)

  further : f.id < 0x2000_0000 → first_wide i (f ∷ fs) ≡ first_wide (i + 1) fs
  unfolding first_wide is_wide
  further h = sym (when_gt _ _ h refl)

-- ---- the place, from the search and back
found : (fs : List Frame) (n i : ℕ) → IsFirstWide fs n → first_wide i fs ≡ some (i + n)
unfolding ids_of
found [] n i w = let h : n < 0 = w.there in absurd (omega arith)
found (f ∷ fs) zero i w = here f fs i w.wide ∙ ap some (let e : i ≡ i + 0 = omega arith in e)
found (f ∷ fs) (suc n) i w =
    let h : suc n < suc (length fs) = w.there in
    let tail : IsFirstWide fs n = record { there = omega arith; wide = w.wide; before = λ k l. w.before (suc k) (omega arith) } in
    further f fs i (w.before 0 (omega arith)) ∙ found fs n (i + 1) tail ∙ ap some (let e : i + 1 + n ≡ i + suc n = omega arith in e)

found_none : (fs : List Frame) (i : ℕ) → NoneWide fs → first_wide i fs ≡ none
unfolding first_wide ids_of
found_none [] i w = refl
found_none (f ∷ fs) i w = further f fs i (w 0 (omega arith)) ∙ found_none fs (i + 1) (λ k l. w (suc k) (omega arith))

-- what holds of the frames after the first, and of it, holds of all
with_first : (f : Frame) (fs : List Frame) (n : ℕ) → f.id < 0x2000_0000 → ((k : ℕ) → k < n → id_at fs k < 0x2000_0000) → (k : ℕ) → k < suc n → id_at (f ∷ fs) k < 0x2000_0000
unfolding ids_of
with_first f fs n h b zero l = h
with_first f fs n h b (suc k) l = b k (omega arith)

abbrev Place : List Frame → ℕ → ℕ → Type 0
Place fs i m = (n : ℕ) × (m ≡ i + n) × IsFirstWide fs n

place : (fs : List Frame) (i m : ℕ) → first_wide i fs ≡ some m → Place fs i m
unfolding first_wide ids_of
place [] i m e = let z : ◌≡◌ {A = ℕ} 0 1 = cc in absurd (omega arith)
place (f ∷ fs) i m e =
    less? f.id 0x2000_0000
    (λ h.
    let p : Place fs (i + 1) m = place fs (i + 1) m (sym (further f fs i h) ∙ e) in
    let n : ℕ = p.0 in
    let w : IsFirstWide fs n = p.2 in
    let low : n < length fs = w.there in
    (suc n, omega (arith, p.1), record { there = omega arith; wide = w.wide; before = with_first f fs n h w.before }))
    (λ h.
    let z : some i ≡ some m = sym (here f fs i h) ∙ e in
    (0, let s : m ≡ i = cc in omega arith, record { there = omega arith; wide = h; before = λ k l. absurd (omega arith) }))

place_none : (fs : List Frame) (i : ℕ) → first_wide i fs ≡ none → NoneWide fs
place_none [] i e = λ k l. absurd (omega arith)
place_none (f ∷ fs) i e =
    less? f.id 0x2000_0000
    (λ h. with_first f fs (length fs) h (place_none fs (i + 1) (sym (further f fs i h) ∙ e)))
    (λ h. let found : some i ≡ none = sym (here f fs i h) ∙ e in let z : ◌≡◌ {A = ℕ} 0 1 = cc in absurd (omega arith))

module _ (fs : List Frame) where
  pub first_wide_lem : (n : ℕ) → IsFirstWide fs n → first_wide 0 fs ≡ some n
  first_wide_lem n w = found fs n 0 w ∙ ap some (let e : 0 + n ≡ n = omega arith in e)

  pub is_first : (n : ℕ) → first_wide 0 fs ≡ some n → IsFirstWide fs n
  is_first n e = let p : Place fs 0 n = place fs 0 n e in subst (IsFirstWide fs) (let s : p.0 ≡ n = omega (arith, p.1) in s) p.2

  pub none_wide : NoneWide fs → first_wide 0 fs ≡ none
  none_wide = found_none fs 0

  pub is_none : first_wide 0 fs ≡ none → NoneWide fs
  is_none = place_none fs 0

-- ---- the answers
-- 29 carries one number, and comes of the search alone
only : {A : Type 0} (x : Option ℕ) (rest : Answer A) (vs : List ℕ) → code_of rest ≢ 29 → wide_first x rest ≡ refuses 29 vs → (n : ℕ) × (x ≡ some n) × (vs ≡ n ∷ [])
unfolding wide_first
only none rest vs h e = absurd (h (ap code_of e))
only (some n) rest vs h e = (n, refl, cc)

-- no other test gives it
not_29 : (k : ℕ) → 20 ≤ k → k ≤ 26 → k ≢ 29
not_29 k lo hi = omega arith

module _ (fs : List Frame) where
  abbrev Refused29 : List ℕ → Type 0
  Refused29 vs = (n : ℕ) × IsFirstWide fs n × (vs ≡ n ∷ [])

  found_only : {A : Type 0} (rest : Answer A) (vs : List ℕ) → code_of rest ≢ 29 → wide_first (first_wide 0 fs) rest ≡ refuses 29 vs → Refused29 vs
  found_only rest vs h e =
      let p : (n : ℕ) × (first_wide 0 fs ≡ some n) × (vs ≡ n ∷ []) = only (first_wide 0 fs) rest vs h e in
      (p.0, is_first fs p.0 p.1, p.2)

  module _ (list arena : List ℕ) (source pgn : ℕ) where
    pub reassembly_29 : (n : ℕ) → IsFirstWide fs n → delivered_to list arena fs source pgn ≡ refuses 29 (n ∷ [])
    unfolding delivered_to wide_first
    reassembly_29 n w = ap (λ (x : Option ℕ). wide_first x (room_for (length list) (length arena) (messages_of fs source pgn))) (first_wide_lem fs n w)

    pub reassembly_only : (vs : List ℕ) → delivered_to list arena fs source pgn ≡ refuses 29 vs → (n : ℕ) × IsFirstWide fs n × (vs ≡ n ∷ [])
    unfolding delivered_to
    reassembly_only vs e =
        found_only (room_for (length list) (length arena) (messages_of fs source pgn)) vs
        (room_coded (λ (k : ℕ). k ≢ 29) (omega arith) (omega arith) _ _ _ (messages_coded (λ (k : ℕ). k ≢ 29) (omega arith) not_29 source pgn 0 none fs)) e

    pub reassembly_still : NoneWide fs → delivered_to list arena fs source pgn ≡ room_for (length list) (length arena) (messages_of fs source pgn)
    unfolding delivered_to wide_first
    reassembly_still w = ap (λ (x : Option ℕ). wide_first x (room_for (length list) (length arena) (messages_of fs source pgn))) (none_wide fs w)

  module _ (source expected base : ℕ) where
    abbrev asked : Answer ℕ
    asked = transmission_of fs source expected base

    not_asked : code_of (transmission_of fs source expected base) ≢ 29
    not_asked = transmission_coded (λ (k : ℕ). k ≢ 29) (omega arith) not_29 (omega arith) (λ k lo hi. omega arith) fs source expected base

    module _ (some-count : 1 ≤ expected) (fits : base + (expected - 1) ≤ 4294967295) where
      after_31 : check_tx_of fs source expected base ≡ wide_first (first_wide 0 fs) asked
      unfolding check_tx_of
      after_31 = sym (when_ne _ _ {a = expected} {b = 0} (λ e. omega arith) (when_ge _ _ {a = 4294967295} {b = base + (expected - 1)} fits refl))

      pub check_29 : (n : ℕ) → IsFirstWide fs n → check_tx_of fs source expected base ≡ refuses 29 (n ∷ [])
      unfolding wide_first
      check_29 n w = after_31 ∙ ap (λ (x : Option ℕ). wide_first x asked) (first_wide_lem fs n w)

      pub check_still : NoneWide fs → check_tx_of fs source expected base ≡ transmission_of fs source expected base
      unfolding wide_first
      check_still w = after_31 ∙ ap (λ (x : Option ℕ). wide_first x asked) (none_wide fs w)

    pub check_only : (vs : List ℕ) → check_tx_of fs source expected base ≡ refuses 29 vs → (n : ℕ) × IsFirstWide fs n × (vs ≡ n ∷ [])
    unfolding check_tx_of
    check_only vs e =
        same? expected 0
        (λ h. let z : refuses 30 [] ≡ refuses 29 vs = when_eq _ _ h refl ∙ e in let c : 30 ≡ 29 = ap code_of z in absurd (omega arith))
        (λ h.
        less? 4294967295 (base + (expected - 1))
        (λ k. let z : refuses 31 [] ≡ refuses 29 vs = when_ne _ _ h (when_lt _ _ k refl) ∙ e in let c : 31 ≡ 29 = ap code_of z in absurd (omega arith))
        (λ k. found_only asked vs not_asked (when_ne _ _ h (when_ge _ _ {a = 4294967295} {b = base + (expected - 1)} k refl) ∙ e)))
