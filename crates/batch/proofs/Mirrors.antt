-- The rows beside the heads, and the memory of the list, after a store. Assumes nothing.
use Rattle.std.proofs.Common.{◌≡◌, ℕ, zero, suc, ◌+◌, ◌<◌, List, [], ◌∷◌, length, get_or, set, refl, le_of_suc-le-suc, not-suc-le-zero, arith, length-set, get_or-set_other, get_or-set_same}
use lib.Seq.{set-get_or}
use Rattle.base.proofs.Cases.{same?}
use Rattle.session.specs.declared.Head.{Head}
use Rattle.session.specs.declared.Heard.{Heard}
use Rattle.session.specs.Rules.{pool_limit}
use Rattle.session.specs.Heads.{copied_head}
use Rattle.batch.specs.inner.Mirror.{key_number, Shows, Mirrors}

-- within a list the default does not matter
get_d_any : {A : Type 0} (l : List A) (i : ℕ) (d e : A) → i < length l → get_or l i d ≡ get_or l i e
get_d_any [] i d e h = absurd (not-suc-le-zero h)
get_d_any (x ∷ l) zero d e h = refl
get_d_any (x ∷ l) (suc i) d e h = get_d_any l i d e (le_of_suc-le-suc h)

module _ (hs : List Head) (ks os ts : List ℕ) where
  pub mirrors_none : length ks ≡ pool_limit → length os ≡ pool_limit → length ts ≡ pool_limit → Mirrors 0 hs ks os ts
  mirrors_none a b c = record { keys = a; owners = b; lasts = c; at = λ j d h. absurd (not-suc-le-zero h) }

  module _ (i : ℕ) (lt : i < pool_limit) (k o t : ℕ) where
    pub mirrors_turn : (d : Head) → length hs ≡ pool_limit → Mirrors i hs ks os ts → Shows (get_or hs i d) k o t → Mirrors (i + 1) hs (set ks i k) (set os i o) (set ts i t)
    mirrors_turn d long m s =
        record {
          keys = simp length-set m.keys;
          owners = simp length-set m.owners;
          lasts = simp length-set m.lasts;
          at = λ j e h.
              same? j i
              (λ q. rw (q, get_or-set_same ks i k 0 (omega (arith, m.keys)), get_or-set_same os i o 0 (omega (arith, m.owners)), get_or-set_same ts i t 0 (omega (arith, m.lasts)), get_d_any hs i e d (omega (arith, long))) s)
              (λ q. rw (get_or-set_other ks i j k 0 q, get_or-set_other os i j o 0 q, get_or-set_other ts i j t 0 q) (m.at j e (omega arith)));
        }

    pub mirrors_set : (h : Head) → length hs ≡ pool_limit → Mirrors pool_limit hs ks os ts → Shows h k o t → Mirrors pool_limit (set hs i h) (set ks i k) (set os i o) (set ts i t)
    mirrors_set h long m s =
        record {
          keys = simp length-set m.keys;
          owners = simp length-set m.owners;
          lasts = simp length-set m.lasts;
          at = λ j e l.
              same? j i
              (λ q. rw (q, get_or-set_same hs i h e (omega (arith, long)), get_or-set_same ks i k 0 (omega (arith, m.keys)), get_or-set_same os i o 0 (omega (arith, m.owners)), get_or-set_same ts i t 0 (omega (arith, m.lasts))) s)
              (λ q. rw (get_or-set_other hs i j h e q, get_or-set_other ks i j k 0 q, get_or-set_other os i j o 0 q, get_or-set_other ts i j t 0 q) (m.at j e l));
        }

  -- a session that goes on: only its time is another
  module _ (f : Heard) (d : Head) where
    shows_copied : (h : Head) (k o t : ℕ) → Shows h k o t → Shows (copied_head f h) k o f.now_ms
    unfolding copied_head key_number
    shows_copied h k o t s = record { key = s.key; owner = s.owner; last = refl; range = record { source = s.range.source; pgn = s.range.pgn; byte = s.range.byte } }

    pub mirrors_run : (i : ℕ) → i < pool_limit → (t : Head) → t ≡ copied_head f (get_or hs i d) → length hs ≡ pool_limit → Mirrors pool_limit hs ks os ts → Mirrors pool_limit (set hs i t) ks os (set ts i f.now_ms)
    mirrors_run i lt t et long m =
        rw (set-get_or ks i 0, set-get_or os i 0) at
        (mirrors_set i lt (get_or ks i 0) (get_or os i 0) f.now_ms t long m (rw et (shows_copied (get_or hs i d) _ _ _ (m.at i d lt))))
