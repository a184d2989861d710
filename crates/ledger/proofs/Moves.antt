-- Each call of 01's steps is one of the book's moves: the walk through the tests is made once, here.
-- Assumes nothing.
use mathlib.Core.List.{List}
use mathlib.Core.Option.{Option, none, some}
use mathlib.Core.Path.{◌≡◌, refl}
use Prim.Native.Nat.{ℕ, ◌<◌}
use lib.ListN.{length, get_or}
use lib.Dec.{eqb, leb}
use Rattle.base.specs.Lists.{first_at}
use Rattle.base.proofs.Cases.{pick_all}
use Rattle.book.proofs.Moves.{Within, within_or, within_first, is_unlisted, is_badly, is_refused, is_stray, Move, stays, at_once, opened, grows, delivers, breaks, Moves}
use Rattle.session.specs.Rules.{Rules}
use Rattle.session.specs.Frames.{index_of, size_of, is_empty, bad_first}
use Rattle.assembler.specs.Call.{Call, listed}
use Rattle.ledger.specs.Ledger.{Message, grown, Place, idle, holds, held_in, NoSlot, Stray, key_held, free_of_source, free, late, taken_by, live_held, full, awaited, left, nothing_moved, opens_in, continues_in, given, tell_one}

pub within_taken : (R : Rules) (c : Call) (ps : List Place) → Within (length ps) (taken_by R c ps)
unfolding taken_by
within_taken R c ps =
    within_or (length ps) _ _ (within_first (key_held R c) ps (idle 0))
    (within_or (length ps) _ _ (within_first (free_of_source R c) ps (idle 0)) (within_first (free R c) ps (idle 0)))

module _ (R : Rules) (n : ℕ) (ps : List Place) (c : Call) where
  move_open : (o : Option ℕ) → Within (length ps) o → Move (late R c) n ps c (given o (nothing_moved NoSlot ps) (opens_in R n ps c))
  unfolding given nothing_moved opens_in
  move_open none u = stays is_refused
  move_open (some i) u = opened i u

  move_own : (i : ℕ) (m : Message) → i < length ps → get_or ps i (idle 0) ≡ holds m → Move (late R c) n ps c (continues_in ps c i m)
  unfolding continues_in left
  move_own i m u e =
      pick_all (Move (late R c) n ps c) (awaited c m)
      (pick_all (Move (late R c) n ps c) (full (grown m c)) (delivers i m m.first.heard.source_address u e) (grows i m u e))
      (breaks i m m.first.heard.source_address u e)

  move_held : (i : ℕ) → i < length ps → (p : Place) → get_or ps i (idle 0) ≡ p → Move (late R c) n ps c (given (held_in p) (nothing_moved Stray ps) (continues_in ps c i))
  unfolding given nothing_moved held_in
  move_held i u (idle kept) e = stays is_stray
  move_held i u (holds m) e = move_own i m u e

  move_continue : (o : Option ℕ) → Within (length ps) o → Move (late R c) n ps c (given o (nothing_moved Stray ps) (λ i. given (held_in (get_or ps i (idle 0))) (nothing_moved Stray ps) (continues_in ps c i)))
  unfolding given nothing_moved
  move_continue none u = stays is_stray
  move_continue (some i) u = move_held i u (get_or ps i (idle 0)) refl

  pub move : Move (late R c) n ps c (tell_one R n ps c)
  unfolding tell_one nothing_moved
  move =
      pick_all (Move (late R c) n ps c) (listed c)
      (pick_all (Move (late R c) n ps c) (is_empty c.heard) (stays is_badly)
      (pick_all (Move (late R c) n ps c) (eqb (index_of c.heard) 0)
      (pick_all (Move (late R c) n ps c) (bad_first c.heard) (stays is_badly)
      (pick_all (Move (late R c) n ps c) (leb (size_of c.heard) 6) at_once
      (move_open (taken_by R c ps) (within_taken R c ps))))
      (move_continue (first_at (live_held R c) ps) (within_first (live_held R c) ps (idle 0)))))
      (stays is_unlisted)

pub moves : (R : Rules) → Moves (tell_one R) (late R)
moves R n ps c = move R n ps c
