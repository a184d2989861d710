-- The key of a slot, and where a frame goes, case by case as the code meets them. Assumes nothing.
use Rattle.std.proofs.Common.{◌≡◌, ℕ, ◌%◌, Bool, true, false, List, get_or, ◌∙◌, eq-eqb, ne_eqb}
use Rattle.base.specs.Pick.{pick}
use Rattle.session.specs.declared.Heard.{Heard}
use Rattle.session.specs.declared.Head.{Head}
use Rattle.session.specs.declared.Mode.{Mode}
use Rattle.session.specs.Rules.{pool_limit}
use Rattle.session.specs.Frames.{index_of}
use Rattle.batch.specs.inner.Mirror.{packed, key_number, chosen_in, live_in, quiet, sought}

-- ---- keys

pub key_busy : (h : Head) (k : ℕ) → k ≡ packed h.source_address h.pgn h.sequence_id h.part → h.in_progress ≡ true → k ≡ key_number h
unfolding key_number pick
key_busy h k e b = rw b e

pub key_idle : (h : Head) → h.in_progress ≡ false → 0 ≡ key_number h
unfolding key_number pick
key_idle h b = rw b

-- ---- where a frame goes

module _ (mode : Mode) (keys owners lasts : List ℕ) (n : ℕ) (listed : Bool) (key : ℕ) (f : Heard) where
  pub sought_unlisted : listed ≡ false → pool_limit ≡ sought mode keys owners lasts n listed key f
  unfolding sought pick
  sought_unlisted e = rw e

  module _ (e : listed ≡ true) where
    pub sought_next : (r : ℕ) → (get_or f.«data» 0 0 % 32 ≡ 0 → ⊥) → r ≡ live_in mode keys lasts n key f.now_ms → r ≡ sought mode keys owners lasts n listed key f
    unfolding sought pick index_of
    sought_next r z er = er ∙ rw (e, ne_eqb (get_or f.«data» 0 0 % 32) 0 z)

    module _ (z : get_or f.«data» 0 0 % 32 ≡ 0) where
      pub sought_quiet : quiet f ≡ true → pool_limit ≡ sought mode keys owners lasts n listed key f
      unfolding sought pick index_of
      sought_quiet q = rw (e, eq-eqb (get_or f.«data» 0 0 % 32) 0 z, q)

      pub sought_first : (r : ℕ) → quiet f ≡ false → r ≡ chosen_in mode keys owners lasts n key f.source_address f.now_ms → r ≡ sought mode keys owners lasts n listed key f
      unfolding sought pick index_of
      sought_first r q er = er ∙ rw (e, eq-eqb (get_or f.«data» 0 0 % 32) 0 z, q)
