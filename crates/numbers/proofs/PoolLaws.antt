-- Heads and pools from numbers, and heads laid on numbers. Assumes nothing.
use Prim.Native.Nat.{ℕ, ◌+◌, ◌*◌, ◌%◌, ◌<◌}
use mathlib.Core.List.{List, [], ◌∷◌}
use mathlib.Core.Path.{◌≡◌, refl, sym, ap, ◌∙◌}
use lib.ListN.{get_or, set, take, length}
use lib.Seq.{sets, take-suc-set, take_all}
use native.Mathlib.Numerals.{add-one}
use native.Mathlib.Omega.{arith}
use Rattle.session.specs.Rules.{pool_limit}
use Rattle.session.specs.Heads.{fresh_head}
use Rattle.session.specs.declared.Head.{Head}
use Rattle.session.specs.declared.Mode.{Mode}
use Rattle.session.specs.declared.PoolKind.{PoolKind}
use Rattle.numbers.specs.Numbers.{is_set, laid_on}
use Rattle.numbers.specs.Pool.{head_numbers, pool_kind_from, head_at, head_over, heads_to, heads_from, laid_to, laid_over, mode_from, size_under, pool_from}
use Rattle.base.specs.Pick.{pick}

-- ---- a head and a pool read field by field
pub head_by : (n : List ℕ) (at : ℕ) {b c d e p w f g h : ℕ}
    → w ≡ get_or n at 0 → b ≡ get_or n (at + 1) 0 % 0x100 → c ≡ get_or n (at + 2) 0 % 0x100 → d ≡ get_or n (at + 3) 0 % 0x100 → e ≡ get_or n (at + 4) 0 % 0x1_0000_0000
    → p ≡ get_or n (at + 5) 0 % 0x1_0000 → f ≡ get_or n (at + 6) 0 → g ≡ get_or n (at + 7) 0 → h ≡ get_or n (at + 8) 0
    → record { in_progress = is_set w; source_address = b; sequence_id = c; last_frame_index = d; pgn = e; part = p; expected_size = f; current_size = g; last_seen_ms = h } ≡ head_at n at
unfolding head_at
head_by n at w b c d e p f g h = rw (w, b, c, d, e, p, f, g, h) refl

pub pool_by : (size mode kind : ℕ) (heads bytes : List ℕ) {h : List Head} {d : PoolKind} {m : Mode} {s : ℕ} → h ≡ heads_from heads → d ≡ pool_kind_from kind → m ≡ mode_from mode
    → s ≡ size_under mode kind size → record { kind = d; mode = m; size = s; heads = h; bytes = bytes } ≡ pool_from size mode kind heads bytes
unfolding pool_from
pool_by size mode kind heads bytes h d m s = rw (h, d, m, s) refl

-- ---- a pool made, of the size, the mode and the kind that the numbers stand for

-- ---- heads read one after the other
pub read_turn : (n : List ℕ) (k : ℕ) (hs : List Head) (h : Head) → take k hs ≡ heads_to k n → k < length hs → h ≡ head_at n (head_numbers * k) → take (k + 1) (set hs k h) ≡ heads_to (k + 1) n
unfolding heads_to
read_turn n k hs h e l f = rw (add-one k, take-suc-set hs k h l, e, f)

pub read_done : (n : List ℕ) (k : ℕ) (hs : List Head) → k ≡ pool_limit → length hs ≡ pool_limit → take k hs ≡ heads_to k n → hs ≡ heads_from n
unfolding heads_from
read_done n k hs e l t = sym (take_all k hs (omega (arith, e, l))) ∙ t ∙ ap (λ (j : ℕ). heads_to j n) e

-- ---- a head's numbers, one by one
pub over_by : (n : List ℕ) (at : ℕ) (h : Head) {a b c d e p : ℕ}
    → a ≡ laid_on (get_or n at 0) (pick (is_set (get_or n at 0)) 1 0) (pick h.in_progress 1 0) → b ≡ laid_on (get_or n (at + 1) 0) (get_or n (at + 1) 0 % 0x100) h.source_address
    → c ≡ laid_on (get_or n (at + 2) 0) (get_or n (at + 2) 0 % 0x100) h.sequence_id → d ≡ laid_on (get_or n (at + 3) 0) (get_or n (at + 3) 0 % 0x100) h.last_frame_index
    → e ≡ laid_on (get_or n (at + 4) 0) (get_or n (at + 4) 0 % 0x1_0000_0000) h.pgn
    → p ≡ laid_on (get_or n (at + 5) 0) (get_or n (at + 5) 0 % 0x1_0000) h.part
    → a ∷ b ∷ c ∷ d ∷ e ∷ p ∷ h.expected_size ∷ h.current_size ∷ h.last_seen_ms ∷ [] ≡ head_over n at h
unfolding head_over
over_by n at h a b c d e p = rw (a, b, c, d, e, p) refl

-- ---- heads laid one after the other
pub laid_none : (heads : List Head) (n : List ℕ) → n ≡ laid_to 0 n heads
unfolding laid_to
laid_none heads n = refl

pub laid_turn : (heads : List Head) (k : ℕ) (n₀ : List ℕ) {n m : List ℕ} → n ≡ laid_to k n₀ heads → m ≡ sets n (head_numbers * k) (head_over n (head_numbers * k) (get_or heads k fresh_head)) → m ≡ laid_to (k + 1) n₀ heads
unfolding laid_to
laid_turn heads k n₀ e f =
    f ∙ ap (λ (x : List ℕ). sets x (head_numbers * k) (head_over x (head_numbers * k) (get_or heads k fresh_head))) e ∙ ap (λ (j : ℕ). laid_to j n₀ heads) (sym (add-one k))

pub laid_done : (heads : List Head) (k : ℕ) (n₀ : List ℕ) {n : List ℕ} → k ≡ pool_limit → n ≡ laid_to k n₀ heads → n ≡ laid_over n₀ heads
unfolding laid_over
laid_done heads k n₀ h e = e ∙ ap (λ (j : ℕ). laid_to j n₀ heads) h
