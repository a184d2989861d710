-- Laws of a frame's eight bytes. Assumes nothing.
use Rattle.std.proofs.Common.{◌≡◌, ℕ, suc, ◌+◌, ◌≤◌, List, [], ◌∷◌, ◌++◌, length, set, take, drop, refl, sym, ap, ◌∙◌, arith, drop_of_length-le, drop-cons}
use borrow.Rule.Slice.PartMut.{put_mid}
use lib.Seq.{sets, take_all}
use Rattle.std.proofs.lemmas.List.Edits.{sets-eq}
use Rattle.std.proofs.lemmas.Slice.{put_mid-paste}
use Rattle.splitter.specs.Frames.{eight}

pub eight_same : (bs : List ℕ) → length bs ≡ 8 → eight bs ≡ bs
unfolding eight
eight_same bs n =
    let e : drop 8 bs ≡ [] = drop_of_length-le bs {i = 8} (omega arith) in
    cc (drop-cons bs 0 0 (omega arith), drop-cons bs 1 0 (omega arith), drop-cons bs 2 0 (omega arith), drop-cons bs 3 0 (omega arith), drop-cons bs 4 0 (omega arith), drop-cons bs 5 0 (omega arith), drop-cons bs 6 0 (omega arith), drop-cons bs 7 0 (omega arith))

pub eight_long : (bs : List ℕ) → length (eight bs) ≡ 8
unfolding eight
eight_long bs = refl

-- ---- a part of a slice is written over
pub mid_sets : (l vs : List ℕ) (a k : ℕ) → k ≡ length vs → a + length vs ≤ length l → put_mid a k l vs ≡ sets l a vs
mid_sets l vs a k e h =
    put_mid-paste a k l vs vs (length vs) refl (sym e) refl
    ∙ ap (λ (q : List ℕ). take a l ++ q ++ drop (a + length vs) l) (take_all (length vs) vs (omega arith))
    ∙ sym (sets-eq vs l a h)

-- ---- one run of stores after another
pub sets_more : {A : Type 0} (p q l : List A) (a : ℕ) → sets l a (p ++ q) ≡ sets (sets l a p) (a + length p) q
sets_more [] q l a = let e : a ≡ a + 0 = omega arith in ap (λ (k : ℕ). sets l k q) e
sets_more (x ∷ p) q l a = let e : suc a + length p ≡ a + suc (length p) = omega arith in sets_more p q (set l a x) (suc a) ∙ ap (λ (k : ℕ). sets (sets (set l a x) (suc a) p) k q) e
