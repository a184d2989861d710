-- The frame in each of the three cases, from what the calls gave. Assumes nothing.
use Rattle.std.proofs.Common.{◌≡◌, ℕ, ◌+◌, ◌-◌, ◌%◌, min, Bool, true, false, List, length, ◌∙◌, arith, eq-eqb, ne_eqb}
use Rattle.base.specs.Pick.{pick}
use Rattle.builder.specs.FrameBytes.{header_of, index_after}
use Rattle.builder.specs.inner.Laid.{laid_of}
use Rattle.builder.specs.inner.Placed.{laid_at}
use Rattle.builder.specs.declared.frame_bytes.Laid.{Laid}

module _ (fast : Bool) (sequence index sent : ℕ) (p : List ℕ) {x : Laid} where
  pub laid_raw : fast ≡ false → x ≡ laid_at 255 255 0 index 0 p
      → record { «data» = x.«data»; len = length p; frame_index = x.frame_index; bytes_sent = length p } ≡ laid_of fast sequence index sent p
  unfolding laid_of laid_at pick
  laid_raw f e = rw (e, f)

  module _ (f : fast ≡ true) {head next : ℕ} (h : head ≡ header_of sequence index) (n : next ≡ index_after index) where
    pub laid_first : {size : ℕ} → sent ≡ 0 → size ≡ length p % 256 → x ≡ laid_at head size 2 next 0 p → x ≡ laid_of fast sequence index sent p
    unfolding laid_of laid_at pick
    laid_first z s e =
        let l : 0 + min 6 (length p - 0) ≡ min 6 (length p) = omega arith in
        e ∙ rw (f, eq-eqb sent 0 z, h, n, s, l)

    pub laid_later : (sent ≡ 0 → ⊥) → x ≡ laid_at head 255 1 next sent p → x ≡ laid_of fast sequence index sent p
    unfolding laid_of laid_at pick
    laid_later z e = e ∙ rw (f, ne_eqb sent 0 z, h, n)

pub ruleset laid = (laid_raw, laid_first, laid_later)
