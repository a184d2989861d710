-- What `Pool::found` finds, said by document 01's steps and not by the walk that finds it: its contract says the walk, and `walk_finds` of proofs/Crowded that
-- this is the same.
use Rattle.std.specs.Prelude.{Bool, List, [], ℕ, ltb}
use Rattle.std.proofs.Math.Option.{Option, none, some}
use Rattle.base.specs.Pick.{pick}
use Rattle.base.specs.Lists.{first_at}
use Rattle.session.specs.declared.Found.{Found}
use Rattle.session.specs.declared.Head.{Head}
use Rattle.session.specs.declared.Heard.{Heard}
use Rattle.session.specs.Rules.{Rules}
use Rattle.session.specs.Heads.{has_key, is_free, is_free_of_source, has_live_key}
use Rattle.assembler.specs.Slots.{Slot, Slots, within, on_head, impossible}

-- the slots that are looked at: those within the size; none where the size is over the limit, since step 1 refuses such a pool before a slot is looked for
unfoldable pub looked_over : Rules → Slots → List Slot
looked_over R p = pick (ltb R.limit p.size) [] (within p)

-- a place, or the limit for none
unfoldable pub place_or : ℕ → Option ℕ → ℕ
place_or limit none = limit
place_or limit (some i) = i

-- the place of the first slot that passes
unfoldable pub first_slot : Rules → (Head → Bool) → Slots → ℕ
first_slot R t p = place_or R.limit (first_at (on_head t) (looked_over R p))

unfoldable pub first_slots : Rules → Heard → Slots → Found
first_slots R f p =
    record {
      -- step 1: whether the pool is one that it refuses
      bad = impossible R p;
      -- step 3: "the first slot in progress with this key, expired or not"
      key = first_slot R (has_key R f) p;
      -- step 4: "the first in-progress slot with this key not silent over 500"
      live = first_slot R (has_live_key R f) p;
      -- step 3: "the first free slot with this source"
      own = first_slot R (is_free_of_source R f) p;
      -- step 3: "the first free slot"
      free = first_slot R (is_free R f) p;
    }
