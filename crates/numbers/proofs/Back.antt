-- Heads that fit their fields, laid over any numbers, are read back as they are, and so is their pool. Assumes nothing.
use Prim.Native.Nat.{ℕ, zero, suc, ◌+◌, ◌*◌, ◌%◌, ◌<◌, ◌≤◌}
use mathlib.Core.Bool.{Bool, true, false}
use mathlib.Core.List.{List}
use mathlib.Core.Path.{◌≡◌, refl, sym, ap, subst, ◌∙◌}
use lib.ListN.{get_or, length, take}
use lib.Seq.{sets, length-sets, take-suc, take_all}
use native.Mathlib.Omega.{arith}
use native.Mathlib.Nat.{add-zero}
use Rattle.base.specs.Pick.{pick}
use Rattle.base.proofs.Cases.{when_eq, when_ne, same?}
use Rattle.session.specs.declared.Head.{Head}
use Rattle.session.specs.declared.Mode.{Mode}
use Rattle.session.specs.declared.PoolKind.{PoolKind}
use Rattle.session.specs.declared.PoolKind.TheVariants.{Original, Addressed}
use Rattle.session.specs.declared.Mode.TheVariants.{AsOriginal, SetBackIsSilence}
use Rattle.session.specs.Rules.{pool_limit}
use Rattle.session.specs.Heads.{fresh_head}
use Rattle.assembler.specs.declared.Pool.{Pool}
use Rattle.numbers.specs.Numbers.{is_set, laid_on}
use Rattle.numbers.specs.Pool.{head_numbers, pool_kind_number, pool_kind_from, head_at, head_over, heads_to, heads_from, laid_to, laid_over, mode_number, mode_from, size_under, pool_from}
use Rattle.numbers.proofs.Sets.{sets_away, sets_at}

-- ---- one number
flag_by : (s b : Bool) (old : ℕ) → is_set old ≡ s → is_set (laid_on old (pick s 1 0) (pick b 1 0)) ≡ b
unfolding laid_on pick
flag_by true true old e = e
flag_by true false old e = refl
flag_by false true old e = refl
flag_by false false old e = e

byte_back : (old x : ℕ) → x < 256 → laid_on old (old % 0x100) x % 0x100 ≡ x
unfolding laid_on
byte_back old x h =
    same? (old % 0x100) x (λ e. ap (λ (k : ℕ). k % 0x100) (sym (when_eq old x e refl)) ∙ e) (λ e. ap (λ (k : ℕ). k % 0x100) (sym (when_ne old x e refl)) ∙ omega arith)

word_back : (old x : ℕ) → x < 0x1_0000_0000 → laid_on old (old % 0x1_0000_0000) x % 0x1_0000_0000 ≡ x
unfolding laid_on
word_back old x h =
    same? (old % 0x1_0000_0000) x (λ e. ap (λ (k : ℕ). k % 0x1_0000_0000) (sym (when_eq old x e refl)) ∙ e)
    (λ e. ap (λ (k : ℕ). k % 0x1_0000_0000) (sym (when_ne old x e refl)) ∙ omega arith)

half_back : (old x : ℕ) → x < 0x1_0000 → laid_on old (old % 0x1_0000) x % 0x1_0000 ≡ x
unfolding laid_on
half_back old x h =
    same? (old % 0x1_0000) x (λ e. ap (λ (k : ℕ). k % 0x1_0000) (sym (when_eq old x e refl)) ∙ e) (λ e. ap (λ (k : ℕ). k % 0x1_0000) (sym (when_ne old x e refl)) ∙ omega arith)

-- ---- a head
pub record Fits (h : Head) : Type 0 where
  pub source : h.source_address < 256
  pub sequence : h.sequence_id < 256
  pub index : h.last_frame_index < 256
  pub pgn : h.pgn < 0x1_0000_0000
  pub part : h.part < 0x1_0000

module _ (n : List ℕ) (at : ℕ) (h : Head) where
  abbrev after : List ℕ
  after = sets n at (head_over n at h)

  first : (l : List ℕ) (from : ℕ) → get_or l from 0 ≡ get_or l (from + 0) 0
  first l from = ap (λ (i : ℕ). get_or l i 0) (sym (add-zero from))

  -- it is read back
  pub head_back : at + head_numbers ≤ length n → Fits h → head_at after at ≡ h
  unfolding head_at head_over
  head_back long fits =
      let there : (k : ℕ) → k < head_numbers → get_or after (at + k) 0 ≡ get_or (head_over n at h) k 0 = λ k l. sets_at (head_over n at h) n at k 0 l long in
      rw (
        ap is_set (first after at ∙ there 0 (omega arith)) ∙ flag_by (is_set (get_or n at 0)) h.in_progress (get_or n at 0) refl,
        ap (λ (y : ℕ). y % 0x100) (there 1 (omega arith)) ∙ byte_back (get_or n (at + 1) 0) h.source_address fits.source,
        ap (λ (y : ℕ). y % 0x100) (there 2 (omega arith)) ∙ byte_back (get_or n (at + 2) 0) h.sequence_id fits.sequence,
        ap (λ (y : ℕ). y % 0x100) (there 3 (omega arith)) ∙ byte_back (get_or n (at + 3) 0) h.last_frame_index fits.index,
        ap (λ (y : ℕ). y % 0x1_0000_0000) (there 4 (omega arith)) ∙ word_back (get_or n (at + 4) 0) h.pgn fits.pgn,
        ap (λ (y : ℕ). y % 0x1_0000) (there 5 (omega arith)) ∙ half_back (get_or n (at + 5) 0) h.part fits.part,
        there 6 (omega arith),
        there 7 (omega arith),
        there 8 (omega arith),
      ) refl

  -- another is as it was
  pub head_other : (from : ℕ) → ((j k : ℕ) → j < head_numbers → k < head_numbers → from + j ≡ at + k → ⊥) → head_at after from ≡ head_at n from
  unfolding head_at head_over
  head_other from f =
      let same : (j : ℕ) → j < head_numbers → get_or after (from + j) 0 ≡ get_or n (from + j) 0 = λ j l. sets_away (head_over n at h) n at (from + j) 0 (λ k m. f j k l m) in
      rw (
        first after from ∙ same 0 (omega arith) ∙ sym (first n from),
        same 1 (omega arith),
        same 2 (omega arith),
        same 3 (omega arith),
        same 4 (omega arith),
        same 5 (omega arith),
        same 6 (omega arith),
        same 7 (omega arith),
        same 8 (omega arith),
      ) refl

-- ---- all heads

laid_long : (k : ℕ) (n : List ℕ) (heads : List Head) → length (laid_to k n heads) ≡ length n
unfolding laid_to
laid_long zero n heads = refl
laid_long (suc k) n heads = length-sets (laid_to k n heads) (head_numbers * k) (head_over (laid_to k n heads) (head_numbers * k) (get_or heads k fresh_head)) ∙ laid_long k n heads

module _ (heads : List Head) (n : List ℕ) (m : ℕ) (long : length n ≡ head_numbers * m) (fits : (k : ℕ) → Fits (get_or heads k fresh_head)) where
  last : (k : ℕ) → suc k ≤ m → head_at (laid_to (suc k) n heads) (head_numbers * k) ≡ get_or heads k fresh_head
  unfolding laid_to
  last k l = head_back (laid_to k n heads) (head_numbers * k) (get_or heads k fresh_head) (omega (arith, laid_long k n heads, long)) (fits k)

  before : (k j : ℕ) → j < k → head_at (laid_to (suc k) n heads) (head_numbers * j) ≡ head_at (laid_to k n heads) (head_numbers * j)
  unfolding laid_to
  before k j l = head_other (laid_to k n heads) (head_numbers * k) (get_or heads k fresh_head) (head_numbers * j) (λ i m p q e. omega arith)

  back_at : (k : ℕ) → k ≤ m → (j : ℕ) → j < k → head_at (laid_to k n heads) (head_numbers * j) ≡ get_or heads j fresh_head
  back_at zero l j h = absurd (omega arith)
  back_at (suc k) l j h =
      same? j k (λ e. subst (λ (i : ℕ). head_at (laid_to (suc k) n heads) (head_numbers * i) ≡ get_or heads i fresh_head) (sym e) (last k l))
      (λ e. before k j (omega arith) ∙ back_at k (omega arith) j (omega arith))

  heads_to_lem : length heads ≡ m → (k : ℕ) → k ≤ m → heads_to k (laid_to m n heads) ≡ take k heads
  unfolding heads_to
  heads_to_lem count zero l = refl
  heads_to_lem count (suc k) l =
      rw (heads_to_lem count k (omega arith), back_at m (omega arith) k l, take-suc heads k fresh_head (omega (arith, count)))

-- the theorem: heads that fit their fields, laid over any numbers, are read back, so that the next call sees the heads that this one answered
pub read_back : (heads : List Head) (n : List ℕ) → length heads ≡ pool_limit → length n ≡ head_numbers * pool_limit → ((k : ℕ) → Fits (get_or heads k fresh_head)) → heads_from (laid_over n heads) ≡ heads
unfolding heads_from laid_over
read_back heads n count long fits = heads_to_lem heads n pool_limit long fits count pool_limit (omega arith) ∙ take_all pool_limit heads (omega (arith, count))

-- ---- a pool

pub mode_back : (m : Mode) → mode_from (mode_number m) ≡ m
unfolding mode_from mode_number pick
mode_back AsOriginal = refl
mode_back SetBackIsSilence = refl

pub kind_back : (d : PoolKind) → pool_kind_from (pool_kind_number d) ≡ d
unfolding pool_kind_from pool_kind_number pick
kind_back Original = refl
kind_back Addressed = refl

pub size_back : (m : Mode) (d : PoolKind) (size : ℕ) → size_under (mode_number m) (pool_kind_number d) size ≡ size
unfolding size_under mode_number pool_kind_number pick
size_back AsOriginal Original size = refl
size_back AsOriginal Addressed size = refl
size_back SetBackIsSilence Original size = refl
size_back SetBackIsSilence Addressed size = refl

module _ (p : Pool) (n : List ℕ) (count : length p.heads ≡ pool_limit) (long : length n ≡ head_numbers * pool_limit) (fits : (k : ℕ) → Fits (get_or p.heads k fresh_head)) where
  -- a pool of the size, mode and kind that three numbers stand for is read back with these numbers, so that the next call with them sees the pool that this one
  -- answered
  pub pool_read_back : (size mode kind : ℕ) → size_under mode kind size ≡ p.size → mode_from mode ≡ p.mode → pool_kind_from kind ≡ p.kind → pool_from size mode kind (laid_over n p.heads) p.bytes ≡ p
  unfolding pool_from
  pool_read_back size mode kind s m d = rw (s, m, d, read_back p.heads n count long fits) refl

  -- and with its size and the numbers of its mode and kind, which making it leaves
  pub made_read_back : pool_from p.size (mode_number p.mode) (pool_kind_number p.kind) (laid_over n p.heads) p.bytes ≡ p
  made_read_back = pool_read_back p.size (mode_number p.mode) (pool_kind_number p.kind) (size_back p.mode p.kind p.size) (mode_back p.mode) (kind_back p.kind)
