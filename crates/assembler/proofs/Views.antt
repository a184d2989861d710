-- The pool as slots and back: each slot is where the code looks for it, and a store within a slot is a store in the flat bytes. Assumes nothing.
use Prim.Native.Nat.{ℕ, zero, suc, ◌+◌, ◌*◌, ◌≤◌, ◌<◌}
use mathlib.Core.Path.{◌≡◌, refl, sym, ap, ◌∙◌}
use mathlib.Core.Bool.{Bool, ◌||◌}
use mathlib.Core.List.{List, [], ◌∷◌, ◌++◌, map, append_assoc}
use lib.ListN.{length, get_or, take, drop, set, take-append-drop, length-drop}
use lib.Seq.{paste, length-paste, take-take, take-add, drop-drop, drop-append-le, take-append-le, drop_at, take_at, length-take-le, take-set-lt, drop-set-lt}
use native.Mathlib.Omega.{arith}
use Rattle.base.specs.Lists.{here, first_at, any}
use Rattle.session.specs.declared.Head.{Head}
use Rattle.session.specs.declared.Mode.{Mode}
use Rattle.session.specs.declared.PoolKind.{PoolKind}
use Rattle.session.specs.declared.Heard.{Heard}
use Rattle.session.specs.declared.Counters.{Counters}
use Rattle.session.specs.Rules.{Rules, pool_limit}
use Rattle.assembler.specs.declared.Pool.{Pool}
use Rattle.assembler.specs.Slots.{Slot, Slots, on_head}
use Rattle.assembler.specs.Making.{pool_bytes}
use Rattle.assembler.specs.Step.{step}
use Rattle.assembler.specs.View.{slots_from, head_of, flat, slots_of, pool_of, shown, receive_of}

heads_set : (ss : List Slot) (i : ℕ) (s : Slot) → map head_of (set ss i s) ≡ set (map head_of ss) i s.head
unfolding head_of
heads_set [] i s = refl
heads_set (x ∷ ss) zero s = refl
heads_set (x ∷ ss) (suc i) s = ap (◌∷◌ x.head) (heads_set ss i s)

pub heads_back : (hs : List Head) (bs : List ℕ) → map head_of (slots_from hs bs) ≡ hs
unfolding head_of slots_from
heads_back [] bs = refl
heads_back (h ∷ hs) bs = ap (◌∷◌ h) (heads_back hs (drop 223 bs))

flat_back : (hs : List Head) (bs : List ℕ) → length bs ≡ length hs * 223 → flat (slots_from hs bs) ≡ bs
unfolding flat slots_from
flat_back [] [] e = refl
flat_back [] (b ∷ bs) e = absurd (omega arith)
flat_back (h ∷ hs) bs e =
    ap (λ (r : List ℕ). take 223 bs ++ r) (flat_back hs (drop 223 bs) (simp length-drop (omega arith))) ∙ take-append-drop 223 bs

pub slot_at_lem : (hs : List Head) (bs : List ℕ) (i : ℕ) (d : Head) (e : Slot) → i < length hs → get_or (slots_from hs bs) i e ≡ record { head = get_or hs i d; buffer = take 223 (drop (i * 223) bs) }
unfolding slots_from
slot_at_lem [] bs i d e h = absurd (omega arith)
slot_at_lem (x ∷ hs) bs zero d e h = refl
slot_at_lem (x ∷ hs) bs (suc i) d e h =
    let k : suc i * 223 ≡ 223 + i * 223 = omega arith in
    slot_at_lem hs (drop 223 bs) i d e (omega arith) ∙ rw (drop-drop (i * 223) 223 bs, k)

pub slots_long : (hs : List Head) (bs : List ℕ) → length (slots_from hs bs) ≡ length hs
unfolding slots_from
slots_long [] bs = refl
slots_long (h ∷ hs) bs = ap suc (slots_long hs (drop 223 bs))

flat_set : (hs : List Head) (bs : List ℕ) (i : ℕ) (s : Slot) → i < length hs → length bs ≡ length hs * 223
    → flat (set (slots_from hs bs) i s) ≡ (take (i * 223) bs ++ s.buffer) ++ drop (i * 223 + 223) bs
unfolding flat slots_from
flat_set [] bs i s h e = absurd (omega arith)
flat_set (x ∷ hs) bs zero s h e = ap (λ (r : List ℕ). s.buffer ++ r) (flat_back hs (drop 223 bs) (simp length-drop (omega arith)))
flat_set (x ∷ hs) bs (suc i) s h e =
    let k : suc i * 223 ≡ 223 + i * 223 = omega arith in
    let m : 223 + i * 223 + 223 ≡ 223 + (i * 223 + 223) = omega arith in
    ap (λ (r : List ℕ). take 223 bs ++ r) (flat_set hs (drop 223 bs) i s (omega arith) (simp length-drop (omega arith)))
    ∙ rw (k, m, take-add 223 (i * 223) bs, ← drop-drop (i * 223 + 223) 223 bs) (simp append_assoc)

-- ---- a store within a slot

module _ (bs : List ℕ) (b at : ℕ) (src : List ℕ) (n : ℕ) (long : b + 223 ≤ length bs) (fits : at + n ≤ 223) (there : n ≤ length src) where
  within_length : length (take 223 (drop b bs)) ≡ 223
  within_length = length-take-le 223 (drop b bs) (simp length-drop (omega arith))

  pub stored : (take b bs ++ paste (take 223 (drop b bs)) at src n) ++ drop (b + 223) bs ≡ paste bs (b + at) src n
  stored =
      let k : b + (at + n) ≡ b + at + n = omega arith in
      let back : drop (at + n) (take 223 (drop b bs)) ++ drop (b + 223) bs ≡ drop (b + at + n) bs =
      ap (λ (r : List ℕ). drop (at + n) (take 223 (drop b bs)) ++ r) (sym (drop-drop 223 b bs))
      ∙ sym (drop-append-le (at + n) (take 223 (drop b bs)) (drop 223 (drop b bs)) (omega (arith, within_length)))
      ∙ ap (λ (r : List ℕ). drop (at + n) r) (take-append-drop 223 (drop b bs))
      ∙ drop-drop (at + n) b bs ∙ ap (λ (i : ℕ). drop i bs) k in
      append_assoc (take b bs) _ (drop (b + 223) bs)
      ∙ ap (λ (r : List ℕ). take b bs ++ r) (append_assoc (take at (take 223 (drop b bs)) ++ take n src) _ (drop (b + 223) bs))
      ∙ ap (λ (r : List ℕ). take b bs ++ (take at (take 223 (drop b bs)) ++ take n src ++ r)) back
      ∙ ap (λ (r : List ℕ). take b bs ++ (r ++ take n src ++ drop (b + at + n) bs)) (take-take at 223 (drop b bs) (omega arith))
      ∙ sym (append_assoc (take b bs) (take at (drop b bs) ++ take n src) (drop (b + at + n) bs))
      ∙ ap (λ (r : List ℕ). r ++ drop (b + at + n) bs) (sym (append_assoc (take b bs) (take at (drop b bs)) (take n src)))
      ∙ ap (λ (r : List ℕ). r ++ take n src ++ drop (b + at + n) bs) (sym (take-add b at bs))

  -- the start of the slot, read after the store
  pub read_back : (m : ℕ) → m ≤ 223 → take m (drop b (paste bs (b + at) src n)) ≡ take m (paste (take 223 (drop b bs)) at src n)
  read_back m h =
      let room : length (paste (take 223 (drop b bs)) at src n) ≡ 223 = length-paste (take 223 (drop b bs)) at src n (omega (arith, within_length)) there ∙ within_length in
      let front : drop b (paste bs (b + at) src n) ≡ paste (take 223 (drop b bs)) at src n ++ drop (b + 223) bs =
      ap (λ (r : List ℕ). drop b r) (sym stored ∙ append_assoc (take b bs) _ (drop (b + 223) bs)) ∙ drop_at (take b bs) _ b (length-take-le b bs (omega arith)) in
      ap (λ (r : List ℕ). take m r) front ∙ take-append-le m (paste (take 223 (drop b bs)) at src n) (drop (b + 223) bs) (omega (arith, room))

-- ---- a pool: all its heads and all its buffers

pub record Whole (p : Pool) : Type 0 where
  pub heads : length p.heads ≡ pool_limit
  pub bytes : length p.bytes ≡ pool_bytes

-- back from the slots is the pool itself
pub view_back : (p : Pool) → Whole p → pool_of p.kind p.mode (slots_of p) ≡ p
unfolding pool_of slots_of
view_back p w = rw (heads_back p.heads p.bytes, flat_back p.heads p.bytes (omega (arith, w.heads, w.bytes)))

pub view_same : (p : Pool) → Whole p → pool_of p.kind p.mode (record { slots = take p.size (slots_from p.heads p.bytes) ++ drop p.size (slots_from p.heads p.bytes); size = p.size }) ≡ p
view_same p w = rw (take-append-drop p.size (slots_from p.heads p.bytes)) (unfold slots_of in view_back p w)

set_within : {A : Type 0} (n : ℕ) (l : List A) (i : ℕ) (a : A) → i < n → set (take n l) i a ++ drop n l ≡ set l i a
set_within n l i a h = rw (← take-set-lt n l i a h, ← drop-set-lt n l i a h) (take-append-drop n (set l i a))

-- a slot within the size, changed
pub view_set : (p : Pool) → Whole p → (i : ℕ) (h : Head) (at : ℕ) (src : List ℕ) (n : ℕ) → i < p.size → p.size ≤ pool_limit → at + n ≤ 223 → n ≤ length src
    → pool_of p.kind p.mode (record { slots = set (take p.size (slots_from p.heads p.bytes)) i (record { head = h; buffer = paste (take 223 (drop (i * 223) p.bytes)) at src n }) ++ drop p.size (slots_from p.heads p.bytes); size = p.size })
    ≡ record { kind = p.kind; mode = p.mode; size = p.size; heads = set p.heads i h; bytes = paste p.bytes (i * 223 + at) src n }
unfolding pool_of slots_of
view_set p w i h at src n lt small fits there =
    let s : Slot = record { head = h; buffer = paste (take 223 (drop (i * 223) p.bytes)) at src n } in
    rw (
      set_within p.size (slots_from p.heads p.bytes) i s lt,
      heads_set (slots_from p.heads p.bytes) i s,
      heads_back p.heads p.bytes,
      flat_set p.heads p.bytes i s (omega (arith, w.heads)) (omega (arith, w.heads, w.bytes)),
      stored p.bytes (i * 223) at src n (omega (arith, w.bytes)) fits there,
    )

-- ---- searches and tests of the heads are those of the slots

pub first_view : (t : Head → Bool) (n : ℕ) (hs : List Head) (bs : List ℕ) → first_at (on_head t) (take n (slots_from hs bs)) ≡ first_at t (take n hs)
unfolding first_at slots_from
first_view t zero hs bs = refl
first_view t (suc n) [] bs = refl
first_view t (suc n) (h ∷ hs) bs = ap (here (t h)) (first_view t n hs (drop 223 bs))

pub any_view : (t : Head → Bool) (n : ℕ) (hs : List Head) (bs : List ℕ) → any (on_head t) (take n (slots_from hs bs)) ≡ any t (take n hs)
unfolding any slots_from
any_view t zero hs bs = refl
any_view t (suc n) [] bs = refl
any_view t (suc n) (h ∷ hs) bs = ap (◌||◌ (t h)) (any_view t n hs (drop 223 bs))

-- ---- slots of 223 bytes each, to the pool and back

pub data Sized : List Slot → Type 0 where
  none : Sized []
  more : {s : Slot} {ss : List Slot} → length s.buffer ≡ 223 → Sized ss → Sized (s ∷ ss)

pub sized_append : {ss ts : List Slot} → Sized ss → Sized ts → Sized (ss ++ ts)
sized_append none h = h
sized_append (more e g) h = more e (sized_append g h)

pub sized_view : (hs : List Head) (bs : List ℕ) → length bs ≡ length hs * 223 → Sized (slots_from hs bs)
unfolding slots_from
sized_view [] bs e = none
sized_view (h ∷ hs) bs e = more (length-take-le 223 bs (omega arith)) (sized_view hs (drop 223 bs) (simp length-drop (omega arith)))

slots_forth : {ss : List Slot} → Sized ss → slots_from (map head_of ss) (flat ss) ≡ ss
unfolding slots_from head_of flat
slots_forth none = refl
slots_forth (more {s} {ss} e h) =
    rw (take_at s.buffer (flat ss) 223 e, drop_at s.buffer (flat ss) 223 e) (ap (◌∷◌ s) (slots_forth h))

pub view_forth : (kind : PoolKind) (mode : Mode) (q : Slots) → Sized q.slots → slots_of (pool_of kind mode q) ≡ q
unfolding slots_of pool_of
view_forth kind mode q h = rw (slots_forth h)

-- ---- no call changes the kind or the mode

-- a pool of this kind and in this mode
pub record Made (kind : PoolKind) (mode : Mode) (p : Pool) : Type 0 where
  pub of_kind : p.kind ≡ kind
  pub in_mode : p.mode ≡ mode

pub made_of : (kind : PoolKind) (mode : Mode) (q : Slots) → Made kind mode (pool_of kind mode q)
unfolding pool_of
made_of kind mode q = record { of_kind = refl; in_mode = refl }

pub made_kept : (R : Rules) (pgns : List ℕ) (f : Heard) (p : Pool) (k : Counters) → Made p.kind p.mode (receive_of R pgns f p k).pool
unfolding receive_of shown
made_kept R pgns f p k = made_of p.kind p.mode (step R (slots_of p) k (record { pgns = pgns; heard = f })).pool
