-- A row's first identifier that is too wide, and what the code knows of it after the last frame.
--     wide-found    where the paper has such a frame, the code's last state has its place
--     wide-none     and where it has none, no such place
-- Assumes nothing.
use Prim.Native.Nat.{ℕ, ◌+◌}
use mathlib.Core.Bool.{true, false}
use mathlib.Core.List.{List, [], ◌∷◌}
use mathlib.Core.Option.{none, some}
use mathlib.Core.Path.{◌≡◌, refl, sym, ap, ◌∙◌, subst}
use native.Mathlib.Omega.{arith}
use Rattle.base.proofs.Cases.{tested, pick_all, when_true, when_false}
use Rattle.splitter.specs.Frames.{is_wide, frame_bytes}
use Rattle.oracle.specs.Strict.{first_wide}
use Rattle.oracle.specs.inner.Frames.{Standing, fault_at}
use Rattle.oracle.specs.inner.Scan.{fault_of, taken, is_over, step_on, scan_frame, scan_of, refused_at}
use Rattle.splitter.specs.declared.Frame.{Frame}
use Rattle.oracle.specs.declared.Scan.{Scan}
use Rattle.std.specs.Prelude.{Some}
use Rattle.oracle.specs.declared.Fault.TheVariants.{TooWide}

-- ---- rows without such a frame
abbrev pub AllNarrow : List Frame → Type 0
AllNarrow [] = Unit {0}
AllNarrow (f ∷ fs) = (is_wide f.id ≡ false) × AllNarrow fs

pub all_narrow : (fs : List Frame) (n : ℕ) → first_wide n fs ≡ none → AllNarrow fs
unfolding first_wide
all_narrow [] n e = tt
all_narrow (f ∷ fs) n e =
    tested (is_wide f.id)
    (λ h. let found : some n ≡ none = when_true _ _ h refl ∙ e in let z : ◌≡◌ {A = ℕ} 0 1 = cc in absurd (omega arith))
    (λ h. (h, all_narrow fs (n + 1) (when_false _ _ h refl ∙ e)))

-- ---- a frame
abbrev NotOver : Standing → Type 0
NotOver x = is_over x ≡ false

-- no other refusal is taken for it
pub fault_not_over : (s : Scan) (bs : List ℕ) (len : ℕ) → is_over (fault_of s bs len) ≡ false
unfolding fault_at
fault_not_over s bs len =
    pick_all NotOver _
    (pick_all NotOver _
    (pick_all NotOver _ refl (pick_all NotOver _ refl (pick_all NotOver _ refl (pick_all NotOver _ refl refl))))
    (pick_all NotOver _ refl (pick_all NotOver _ (pick_all NotOver _ (pick_all NotOver _ refl refl) refl) refl)))
    refl

module _ (s : Scan) (f : Frame) (clear : is_over s.fault ≡ false) where
  -- one that is too wide stands from here on
  finds_wide : is_wide f.id ≡ true → scan_frame s f ≡ refused_at s (Some (TooWide s.n))
  unfolding step_on
  finds_wide e = sym (when_false _ _ clear (when_true _ _ e refl))

  module _ (narrow : is_wide f.id ≡ false) where
    -- any other is counted
    abbrev Counts : Scan → Type 0
    Counts t = (t.n ≡ s.n + 1) × NotOver t.fault

    counts_narrow : Counts (scan_frame s f)
    unfolding step_on taken
    counts_narrow =
        subst Counts (when_false _ _ clear (when_false _ _ narrow refl))
        (pick_all Counts _ (refl, clear)
        (pick_all Counts _ (refl, clear)
        (pick_all Counts _ (refl, fault_not_over s (frame_bytes f) f.len) (refl, clear))))

-- ---- the row
-- once found it stays
wide_stays : (fs : List Frame) (s : Scan) → is_over s.fault ≡ true → scan_of s fs ≡ s
unfolding step_on
wide_stays [] s e = refl
wide_stays (f ∷ fs) s e = ap (λ (t : Scan). scan_of t fs) (sym (when_true _ _ e refl)) ∙ wide_stays fs s e

pub wide_found : (fs : List Frame) (s : Scan) {n : ℕ} → is_over s.fault ≡ false → first_wide s.n fs ≡ some n → (scan_of s fs).fault ≡ Some (TooWide n)
unfolding first_wide
wide_found [] s {n} clear e = let z : ◌≡◌ {A = ℕ} 0 1 = cc in absurd (omega arith)
wide_found (f ∷ fs) s {n} clear e =
    tested (is_wide f.id)
    (λ h.
    let here : s.n ≡ n = let z : some s.n ≡ some n = when_true _ _ h refl ∙ e in cc in
    let t : Scan = refused_at s (Some (TooWide s.n)) in
    ap (λ (u : Scan). (scan_of u fs).fault) (finds_wide s f clear h) ∙ ap (λ (u : Scan). u.fault) (wide_stays fs t refl) ∙ ap (λ (k : ℕ). Some (TooWide k)) here)
    (λ h.
    let c : ((scan_frame s f).n ≡ s.n + 1) × (is_over (scan_frame s f).fault ≡ false) = counts_narrow s f clear h in
    wide_found fs (scan_frame s f) c.1 (ap (λ (k : ℕ). first_wide k fs) c.0 ∙ when_false _ _ h refl ∙ e))

pub wide_none : (fs : List Frame) (s : Scan) → is_over s.fault ≡ false → AllNarrow fs → is_over (scan_of s fs).fault ≡ false
wide_none [] s clear narrow = clear
wide_none (f ∷ fs) s clear narrow = wide_none fs (scan_frame s f) (counts_narrow s f clear narrow.0).1 narrow.1
