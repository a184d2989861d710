-- The walk over the heads, from the last to the first; pool_limit stands for none. Nobody needs to believe these definitions: only the code's own contracts cite them.
use Rattle.std.specs.Prelude.{Bool, true, false, ◌||◌, List, [], ◌∷◌, ℕ, ◌+◌, take, eqb, ltb}
use Rattle.base.specs.Pick.{pick}
use Rattle.session.specs.declared.Head.{Head}
use Rattle.session.specs.declared.Heard.{Heard}
use Rattle.session.specs.declared.Found.{Found}
use Rattle.session.specs.Rules.{Rules, pool_limit}
use Rattle.session.specs.Frames.{index_of}
use Rattle.session.specs.Heads.{impossible_head, has_key, is_free, is_free_of_source, has_live_key}

unfoldable pub nothing_found : Bool → Found
nothing_found b = record { bad = b; key = pool_limit; live = pool_limit; own = pool_limit; free = pool_limit }

unfoldable pub looked : Rules → Heard → ℕ → Head → Found → Found
looked R f i h s =
    record {
      bad = impossible_head R h || s.bad;
      key = pick (has_key R f h) i s.key;
      live = pick (has_live_key R f h) i s.live;
      own = pick (is_free_of_source R f h) i s.own;
      free = pick (is_free R f h) i s.free;
    }

-- what is found in these heads, the first of them at place i
unfoldable pub seen : Rules → Heard → ℕ → List Head → Found
seen R f i [] = nothing_found false
seen R f i (h ∷ hs) = looked R f i h (seen R f (i + 1) hs)

unfoldable pub seen_if : Bool → Rules → Heard → ℕ → List Head → Found
seen_if true R f n hs = nothing_found true
seen_if false R f n hs = seen R f 0 (take n hs)

-- of a pool that is too large nothing is looked at
unfoldable pub found_in : Rules → Heard → ℕ → List Head → Found
found_in R f n hs = seen_if (ltb pool_limit n) R f n hs

unfoldable pub first_of : ℕ → ℕ → ℕ
first_of a b = pick (ltb a pool_limit) a b

-- the place that the frame takes
unfoldable pub place_of : Heard → Found → ℕ
place_of f s = pick (eqb (index_of f) 0) (first_of s.key (first_of s.own s.free)) s.live

unfoldable pub within_limit : ℕ → ℕ
within_limit i = pick (ltb i pool_limit) i 0
