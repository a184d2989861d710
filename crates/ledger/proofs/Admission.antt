-- A listed first frame announcing 7 to 223 bytes, not cut short, opens a message, or is refused exactly when no slot has room for it. No other call does either.
-- Assumes nothing.
use mathlib.Core.Bool.{Bool, true, false, not, ◌&&◌, ◌||◌, false≢true}
use mathlib.Core.List.{List, [], ◌∷◌, map}
use mathlib.Core.Option.{Option, none, some}
use mathlib.Core.Path.{◌≡◌, refl, ap, ap₂, ◌∙◌}
use Prim.Native.Nat.{ℕ}
use native.Mathlib.Omega.{arith}
use lib.ListN.{get_or}
use lib.Dec.{eqb, ltb, leb}
use borrow.Author.Tests.{leb-false, leb-true, ltb-false, ltb-true, le-leb, lt-leb, ne_eqb}
use Rattle.base.specs.Pick.{pick}
use Rattle.base.specs.Lists.{next_place, here, or_else, first_at, any}
use Rattle.base.proofs.Bools.{and_false}
use Rattle.base.proofs.Cases.{pick_all}
use Rattle.base.proofs.First.{Test, test, passes, fails}
use Rattle.fast_packet.specs.FastPacket.{max_payload}
use Rattle.session.specs.declared.Head.{Head}
use Rattle.session.specs.Rules.{Rules}
use Rattle.session.specs.Frames.{index_of, size_of, bad_size, is_empty, cut_first, bad_first}
use Rattle.session.proofs.Cuts.{empty_cut}
use Rattle.session.specs.Heads.{has_key, is_free, is_free_of_source, is_silent}
use Rattle.assembler.specs.Call.{Call, listed}
use Rattle.assembler.specs.Slots.{Slot, within, on_head, chosen}
use Rattle.assembler.specs.Runs.{World}
use Rattle.assembler.specs.View.{head_of}
use Rattle.ledger.specs.Ledger.{Message, Place, idle, holds, held_in, late, awaited, full, grown, live_held, taken_by, Told, nothing_moved, opens_in, continues_in, given, tell_one, Ledger, numbered, next_deed}
use Rattle.ledger.specs.Ledger.{NoSlot, Stray, Restarting, Reclaiming, deed_number, is_one_of, opens, opening_at}
use Rattle.ledger.specs.Demand3.{is_opener, has_room, Admitted}
use Rattle.ledger.specs.Assemblers.{seen_of}
use Rattle.ledger.proofs.Match.{chosen_same}
use Rattle.ledger.proofs.Run.{Follows}

-- ---- a search finds a place exactly when some element passes

found : Option ℕ → Bool
found none = false
found (some i) = true

found_or : (a b : Option ℕ) → found (or_else a b) ≡ (found a || found b)
unfolding found or_else
found_or none b = refl
found_or (some i) b = refl

found_here : (b : Bool) (o : Option ℕ) → found (here b o) ≡ (b || found o)
unfolding found here next_place
found_here true o = refl
found_here false none = refl
found_here false (some i) = refl

module _ {A : Type 0} where
  found_first : (t : A → Bool) (l : List A) → found (first_at t l) ≡ any t l
  unfolding first_at any found
  found_first t [] = refl
  found_first t (x ∷ xs) = found_here (t x) (first_at t xs) ∙ ap (◌||◌ (t x)) (found_first t xs)

  any_three : (k s f r : A → Bool) → ((x : A) → (k x || (s x || f x)) ≡ r x) → (l : List A) → (any k l || (any s l || any f l)) ≡ any r l
  unfolding any
  any_three k s f r e [] = refl
  any_three k s f r e (x ∷ xs) = shuffle (k x) (s x) (f x) (any k xs) (any s xs) (any f xs) ∙ ap₂ ◌||◌ (e x) (any_three k s f r e xs)
    where
      shuffle : (a b c a' b' c' : Bool) → ((a || a') || ((b || b') || (c || c'))) ≡ ((a || (b || c)) || (a' || (b' || c')))
      shuffle true b c a' b' c' = refl
      shuffle false true c true b' c' = refl
      shuffle false true c false b' c' = refl
      shuffle false false true true b' c' = refl
      shuffle false false true false true c' = refl
      shuffle false false true false false c' = refl
      shuffle false false false a' b' c' = refl

room_tests : (k i s g : Bool) → (k || (((i || s) && g) || (i || s))) ≡ ((k || i) || s)
room_tests true i s g = refl
room_tests false true s true = refl
room_tests false true s false = refl
room_tests false false true true = refl
room_tests false false true false = refl
room_tests false false false g = refl

room_same : (R : Rules) (c : Call) (s : Slot) → (has_key R c.heard s.head || (is_free_of_source R c.heard s.head || is_free R c.heard s.head)) ≡ has_room R c s.head
unfolding has_room is_free_of_source is_free
room_same R c s = room_tests (has_key R c.heard s.head) (not s.head.in_progress) (is_silent R c.heard s.head) (eqb s.head.source_address c.heard.source_address)

any_heads : (t : Head → Bool) (ss : List Slot) → any (on_head t) ss ≡ any t (map head_of ss)
unfolding any head_of
any_heads t [] = refl
any_heads t (s ∷ ss) = ap (◌||◌ (t s.head)) (any_heads t ss)

-- a place is taken exactly when some slot has room
found_chosen : (R : Rules) (c : Call) (ss : List Slot) → found (chosen R c.heard ss) ≡ any (on_head (has_room R c)) ss
unfolding chosen
found_chosen R c ss =
    simp (found_or, found_first) (any_three (on_head (has_key R c.heard)) (on_head (is_free_of_source R c.heard)) (on_head (is_free R c.heard)) (on_head (has_room R c)) (room_same R c) ss)

-- ---- what each branch does

record Admits (t : Told) (o r : Bool) : Type 0 where
  opening : opens t.deed ≡ o
  refusing : is_one_of (NoSlot ∷ []) t.deed ≡ r

admits_pick : (b : Bool) {t u : Told} {o r o' r' : Bool} → Admits t o r → Admits u o' r' → Admits (pick b t u) (pick b o o') (pick b r r')
unfolding pick
admits_pick true h g = h
admits_pick false h g = g

-- a call that neither opens nor is refused
abbrev Neither : Told → Type 0
Neither t = Admits t false false

module _ (R : Rules) (n : ℕ) (ps : List Place) (c : Call) where
  admits_late : (b : Bool) (o : Option Message) (qs : List Place) → Admits (record { deed = pick b Reclaiming Restarting; message = o; places = qs }) true false
  unfolding pick opens is_one_of any deed_number
  admits_late true o qs = record { opening = refl; refusing = refl }
  admits_late false o qs = record { opening = refl; refusing = refl }

  admits_opening : (p : Place) (o : Option Message) (qs : List Place) → Admits (record { deed = opening_at (late R c) p; message = o; places = qs }) true false
  unfolding opening_at
  admits_opening (idle kept) o qs = unfold opens is_one_of any deed_number in record { opening = refl; refusing = refl }
  admits_opening (holds m) o qs = admits_late (late R c m) o qs

  admits_open : (o : Option ℕ) → Admits (given o (nothing_moved NoSlot ps) (opens_in R n ps c)) (found o) (not (found o))
  unfolding given opens_in nothing_moved found
  admits_open none = unfold opens is_one_of any deed_number in record { opening = refl; refusing = refl }
  admits_open (some i) = admits_opening (get_or ps i (idle 0)) _ _

  neither_own : (i : ℕ) (m : Message) → Neither (continues_in ps c i m)
  unfolding continues_in opens is_one_of any deed_number
  neither_own i m =
      pick_all Neither (awaited c m) (pick_all Neither (full (grown m c)) (record { opening = refl; refusing = refl }) (record { opening = refl; refusing = refl })) (record { opening = refl; refusing = refl })

  neither_held : (i : ℕ) (o : Option Message) → Neither (given o (nothing_moved Stray ps) (continues_in ps c i))
  unfolding given nothing_moved
  neither_held i none = unfold opens is_one_of any deed_number in record { opening = refl; refusing = refl }
  neither_held i (some m) = neither_own i m

  neither_continue : (o : Option ℕ) → Neither (given o (nothing_moved Stray ps) (λ i. given (held_in (get_or ps i (idle 0))) (nothing_moved Stray ps) (continues_in ps c i)))
  unfolding given nothing_moved
  neither_continue none = unfold opens is_one_of any deed_number in record { opening = refl; refusing = refl }
  neither_continue (some i) = neither_held i (held_in (get_or ps i (idle 0)))

  -- by the tests that a call goes through: listed, no byte sent, index 0, a bad first frame, a size up to 6
  admits_one : Admits (tell_one R n ps c)
      (pick (listed c) (pick (is_empty c.heard) false (pick (eqb (index_of c.heard) 0) (pick (bad_first c.heard) false (pick (leb (size_of c.heard) 6) false (found (taken_by R c ps)))) false)) false)
      (pick (listed c) (pick (is_empty c.heard) false (pick (eqb (index_of c.heard) 0) (pick (bad_first c.heard) false (pick (leb (size_of c.heard) 6) false (not (found (taken_by R c ps))))) false)) false)
  unfolding tell_one nothing_moved opens is_one_of any deed_number
  admits_one =
      admits_pick (listed c)
      (admits_pick (is_empty c.heard) (record { opening = refl; refusing = refl })
      (admits_pick (eqb (index_of c.heard) 0)
      (admits_pick (bad_first c.heard) (record { opening = refl; refusing = refl })
      (admits_pick (leb (size_of c.heard) 6) (record { opening = refl; refusing = refl }) (admits_open (taken_by R c ps))))
      (neither_continue (first_at (live_held R c) ps))))
      (record { opening = refl; refusing = refl })

picks : (a n b x y z : Bool) → pick a (pick n false (pick b (pick x false (pick y false z)) false)) false ≡ ((a && (not n && (b && (not x && not y)))) && z)
unfolding pick
picks true true b x y z = refl
picks true false true true y z = refl
picks true false true false true z = refl
picks true false true false false z = refl
picks true false false x y z = refl
picks false n b x y z = refl

-- the tests on a size, as two bounds
pub size_tests : (c : Call) → (not (bad_size c.heard) && not (leb (size_of c.heard) 6)) ≡ (leb 7 (size_of c.heard) && leb (size_of c.heard) max_payload)
unfolding bad_size
size_tests c = go (test (leb (size_of c.heard) 6)) (test (ltb max_payload (size_of c.heard)))
  where
    n : ℕ
    n = size_of c.heard

    go : Test (leb n 6) → Test (ltb max_payload n) → (not (eqb n 0 || ltb max_payload n) && not (leb n 6)) ≡ (leb 7 n && leb n max_payload)
    go (passes small) big = rw (small, and_false (not (eqb n 0 || ltb max_payload n)), lt-leb 7 n (omega (arith, leb-true n 6 small)))
    go (fails large) (passes big) =
        rw (large, big, ne_eqb n 0 (λ z. omega (arith, leb-false n 6 large)), le-leb 7 n (leb-false n 6 large), lt-leb n max_payload (omega (arith, ltb-true max_payload n big)))
    go (fails large) (fails fits) =
        rw (large, fits, ne_eqb n 0 (λ z. omega (arith, leb-false n 6 large)), le-leb 7 n (leb-false n 6 large), le-leb n max_payload (ltb-false max_payload n fits))

pub opener_tests : (c : Call) → (listed c && (not (is_empty c.heard) && (eqb (index_of c.heard) 0 && (not (bad_first c.heard) && not (leb (size_of c.heard) 6))))) ≡ is_opener c
unfolding is_opener bad_first
opener_tests c =
    group (listed c) (is_empty c.heard) (eqb (index_of c.heard) 0) (bad_size c.heard) (cut_first c.heard) (leb (size_of c.heard) 6) (empty_cut c.heard)
    ∙ ap (λ (b : Bool). ((listed c && eqb (index_of c.heard) 0) && b) && not (cut_first c.heard)) (size_tests c)
    ∙ regroup (listed c) (eqb (index_of c.heard) 0) (leb 7 (size_of c.heard)) (leb (size_of c.heard) max_payload) (not (cut_first c.heard))
  where
    group : (a n b x t y : Bool) → (n ≡ true → t ≡ true) → (a && (not n && (b && (not (x || t) && not y)))) ≡ (((a && b) && (not x && not y)) && not t)
    group a true b x true y e = go a b (not x && not y)
      where
        go : (a b u : Bool) → (a && false) ≡ (((a && b) && u) && false)
        go true true true = refl
        go true true false = refl
        go true false u = refl
        go false b u = refl
    group a true b x false y e = absurd (false≢true (e refl))
    group true false true true t y e = refl
    group true false true false true true e = refl
    group true false true false true false e = refl
    group true false true false false true e = refl
    group true false true false false false e = refl
    group true false false x t y e = refl
    group false false b x t y e = refl

    regroup : (a b x y z : Bool) → (((a && b) && (x && y)) && z) ≡ ((((a && b) && x) && y) && z)
    regroup true true true y z = refl
    regroup true true false y z = refl
    regroup true false x y z = refl
    regroup false b x y z = refl

module _ (R : Rules) (w : World) (L : Ledger) (c : Call) (h : Follows R w L) where
  room : found (taken_by R c L.places) ≡ any (has_room R c) (map head_of (within w.pool))
  room = ap found (chosen_same R c h.shows) ∙ found_chosen R c (within w.pool) ∙ any_heads (has_room R c) (within w.pool)

  pub admitted : Admitted R (seen_of w) L c
  unfolding next_deed seen_of
  admitted =
      let p = admits_one R (numbered L) L.places c in
      let tests = picks (listed c) (is_empty c.heard) (eqb (index_of c.heard) 0) (bad_first c.heard) (leb (size_of c.heard) 6) in
      record {
        opening = p.opening ∙ tests (found (taken_by R c L.places)) ∙ rw (opener_tests c, room);
        refusing = p.refusing ∙ tests (not (found (taken_by R c L.places))) ∙ rw (opener_tests c, room);
      }
