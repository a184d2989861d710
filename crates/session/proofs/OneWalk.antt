-- What the walk over the heads sees is what one walk with three candidates chooses, and the live head. Assumes nothing.
use Prim.Native.Nat.{◌≤◌}
use mathlib.Core.Path.{◌≡◌, sym, ap, ◌∙◌}
use mathlib.Core.List.{List}
use lib.ListN.{length}
use Rattle.base.specs.Lists.{or_else, first_at}
use Rattle.base.specs.OneWalk.{never, one_walk}
use Rattle.base.proofs.OneWalk.{one_walk_is_three, one_walk_alone}
use Rattle.session.specs.declared.Head.{Head}
use Rattle.session.specs.declared.Heard.{Heard}
use Rattle.session.specs.Rules.{Rules, pool_limit}
use Rattle.session.specs.Heads.{fresh_head, has_key, is_free, is_free_of_source, has_live_key}
use Rattle.session.specs.inner.Search.{seen, first_of}
use Rattle.session.proofs.Seen.{place, inside_first, first_of_lem, seen_key, seen_live, seen_own, seen_free}

module _ (R : Rules) (f : Heard) (hs : List Head) where
  -- up to the limit, whose number stands for none
  pub seen_first : length hs ≤ pool_limit → first_of (seen R f 0 hs).key (first_of (seen R f 0 hs).own (seen R f 0 hs).free) ≡ place (one_walk (has_key R f) (is_free_of_source R f) (is_free R f) hs)
  seen_first small =
      rw (seen_key R f hs, seen_own R f hs, seen_free R f hs, first_of_lem (first_at (is_free_of_source R f) hs) (first_at (is_free R f) hs) (length hs) small (inside_first (is_free_of_source R f) hs fresh_head))
      (first_of_lem (first_at (has_key R f) hs) (or_else (first_at (is_free_of_source R f) hs) (first_at (is_free R f) hs)) (length hs) small (inside_first (has_key R f) hs fresh_head)
      ∙ ap place (sym (one_walk_is_three (has_key R f) (is_free_of_source R f) (is_free R f) hs)))

  pub seen_continuation : (seen R f 0 hs).live ≡ place (one_walk (has_live_key R f) never never hs)
  seen_continuation = seen_live R f hs ∙ ap place (sym (one_walk_alone (has_live_key R f) hs))
