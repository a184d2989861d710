-- A run of the receive call is a run of the steps: its pool shows the same slots, its counters are the same, and it says the same.
-- Assumes nothing.
use mathlib.Core.List.{List, [], ◌∷◌, map}
use mathlib.Core.Path.{◌≡◌, refl, ap, subst}
use Prim.Native.Nat.{ℕ, zero, suc, ◌+◌, ◌≤◌}
use native.Mathlib.Omega.{arith}
use lib.ListN.{length, take, drop, take-append-drop}
use Rattle.base.proofs.Paired.{All2, nil, cons}
use Rattle.fast_packet.specs.FastPacket.{max_payload}
use Rattle.session.specs.declared.Head.{Head}
use Rattle.session.specs.Rules.{Rules}
use Rattle.session.specs.Counting.{most}
use Rattle.assembler.specs.declared.Pool.{Pool}
use Rattle.assembler.specs.Call.{Call}
use Rattle.assembler.specs.Slots.{Slot, Slots}
use Rattle.assembler.specs.Step.{step}
use Rattle.assembler.specs.Runs.{World, after_outcome, call_one, call_all}
use Rattle.assembler.specs.View.{slots_from, slots_of, head_of, shown, receive_of}
use Rattle.assembler.proofs.Views.{Sized, none, more, sized_append, view_forth}
use Rattle.assembler.proofs.Keeps.{sized_drop}
use Rattle.ledger.specs.Ledger.{Ledger, Place, tell_one, tell, numbered, blank}
use Rattle.ledger.specs.Assemblers as demand
use Rattle.ledger.specs.Runs.{State, start, sources_of, saying_of, after_call, seen_in}
use Rattle.ledger.specs.Assemblers.{AllOk, receives, reply_says, seen_of}
use Rattle.ledger.proofs.Shows.{Shows, room_of}
use Rattle.ledger.proofs.Run.{Follows, begun, follows_call, step_rest, numbered_tell}

-- ---- slots of 223 bytes each

all2_sized : (R : Rules) {ps : List Place} {ss : List Slot} → All2 (Shows R) ps ss → Sized ss
all2_sized R nil = none
all2_sized R (cons {a} {b} h t) = more (room_of R a b h) (all2_sized R t)

-- the slots past the size
abbrev rest : Slots → List Slot
rest q = drop q.size q.slots

sized : (R : Rules) (w : World) (L : Ledger) → Follows R w L → Sized (rest w.pool) → Sized w.pool.slots
sized R w L f h = subst Sized (take-append-drop w.pool.size w.pool.slots) (sized_append (all2_sized R f.shows) h)

-- ---- a state of the public call and a state of the steps

pub record Same (z : State) (w : World) : Type 0 where
  pub pool : slots_of z.pool ≡ w.pool
  pub counters : z.counters ≡ w.counters
  pub said : z.said ≡ map reply_says w.replies

heads_within : (n : ℕ) (hs : List Head) (bs : List ℕ) → map head_of (take n (slots_from hs bs)) ≡ take n hs
unfolding head_of slots_from
heads_within zero hs bs = refl
heads_within (suc n) [] bs = refl
heads_within (suc n) (h ∷ hs) bs = ap (◌∷◌ h) (heads_within n hs (drop max_payload bs))

-- ... then the same is seen of both
pub same_seen : (z : State) (w : World) → Same z w → seen_in z ≡ seen_of w
unfolding seen_in seen_of slots_of
same_seen z w s = rw (← s.pool, ← s.counters, ← s.said, heads_within z.pool.size z.pool.heads z.pool.bytes)

module _ (R : Rules) where
  next_same : (z : State) (w : World) (c : Call) → Same z w → Sized (call_one (step R) w c).pool.slots → Same (after_call z (receive_of R c.pgns c.heard z.pool z.counters)) (call_one (step R) w c)
  unfolding after_call call_one after_outcome receive_of shown saying_of reply_says
  next_same z w c s h =
      rw (s.pool, s.counters) (record { pool = view_forth z.pool.kind z.pool.mode (step R w.pool w.counters c).pool h; counters = refl; said = ap (◌∷◌ (reply_says (step R w.pool w.counters c).reply)) s.said })

  runs_same : (z : State) (w : World) (L : Ledger) {cs : List Call} → AllOk R cs → Follows R w L → Sized (rest w.pool) → Same z w → numbered L + length cs ≤ most → Same (receives (receive_of R) z cs) (call_all (step R) w cs)
  unfolding receives call_all
  runs_same z w L demand.none f h s l = s
  runs_same z w L (demand.more {c} {cs} ok fits oks) f h s l =
      let w' : World = call_one (step R) w c in
      let f' : Follows R w' (tell (tell_one R) L c) = follows_call R w L c ok fits f (omega arith) in
      let h' : Sized (rest w'.pool) = rw (step_rest R w L c ok fits f) h in
      runs_same (after_call z (receive_of R c.pgns c.heard z.pool z.counters)) w' (tell (tell_one R) L c) oks f' h' (next_same z w c s (sized R w' (tell (tell_one R) L c) f' h')) (omega (arith, numbered_tell R L c))

pub run_same : (R : Rules) (p : Pool) → Sized (slots_of p).slots → Follows R (begun (slots_of p)) (blank (sources_of p)) → {cs : List Call} → AllOk R cs → length cs ≤ most
    → Same (receives (receive_of R) (start p) cs) (call_all (step R) (begun (slots_of p)) cs)
unfolding start begun slots_of
run_same R p s f oks l =
    runs_same R (start p) (begun (slots_of p)) (blank (sources_of p)) oks f (sized_drop s p.size) (record { pool = refl; counters = refl; said = refl }) (unfold numbered blank in omega arith)
