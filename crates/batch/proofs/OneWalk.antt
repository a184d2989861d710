-- What the walks over the rows come to is what one walk with three candidates chooses among the heads that they show, and the live head. Assumes nothing.
use Rattle.std.proofs.Common.{◌≡◌, ℕ, ◌≤◌, List, length, take, ◌∙◌, arith, length-take-le}
use Rattle.base.specs.OneWalk.{never, one_walk}
use Rattle.session.specs.declared.Head.{Head}
use Rattle.session.specs.declared.Heard.{Heard}
use Rattle.session.specs.declared.Mode.{Mode}
use Rattle.session.specs.declared.PoolKind.{PoolKind}
use Rattle.session.specs.Rules.{rules_by, pool_limit}
use Rattle.session.specs.Heads.{fresh_head, has_key, is_free, is_free_of_source, has_live_key}
use Rattle.session.proofs.Seen.{place}
use Rattle.session.proofs.OneWalk.{seen_first, seen_continuation}
use Rattle.batch.specs.inner.Mirror.{frame_key, Keyed, Mirrors, chosen_in, live_in}
use Rattle.batch.proofs.Sought.{seen_here, chosen_is, live_is}

module _ (kind : PoolKind) (mode : Mode) (f : Heard) (n : ℕ) (hs : List Head) (ks os ts : List ℕ) (long : length hs ≡ pool_limit) (small : n ≤ pool_limit) (m : Mirrors pool_limit hs ks os ts) (r : Keyed f) where
  pub rows_first : chosen_in mode ks os ts n (frame_key f) f.source_address f.now_ms ≡ place (one_walk (has_key (rules_by kind mode) f) (is_free_of_source (rules_by kind mode) f) (is_free (rules_by kind mode) f) (take n hs))
  rows_first =
      chosen_is kind mode f n hs ks os ts long small m r fresh_head
      ∙ rw (seen_here kind mode f n hs ks os ts long small m r fresh_head) (seen_first (rules_by kind mode) f (take n hs) (omega (arith, length-take-le n hs (omega (arith, long)))))

  pub rows_continuation : live_in mode ks ts n (frame_key f) f.now_ms ≡ place (one_walk (has_live_key (rules_by kind mode) f) never never (take n hs))
  rows_continuation =
      live_is kind mode f n hs ks os ts long small m r fresh_head
      ∙ rw (seen_here kind mode f n hs ks os ts long small m r fresh_head) (seen_continuation (rules_by kind mode) f (take n hs))
