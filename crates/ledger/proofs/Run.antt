-- A run of the steps from slots that are idle agrees with the ledger of its calls, call by call.
-- Assumes nothing.
use mathlib.Core.Bool.{true, false}
use mathlib.Core.List.{List, [], ◌∷◌, map}
use mathlib.Core.Path.{◌≡◌, refl, ap, ◌∙◌}
use Prim.Native.Nat.{ℕ, suc, ◌+◌, ◌≤◌, ◌<◌}
use native.Mathlib.Omega.{arith}
use lib.ListN.{length, drop, length-append}
use lib.Seq.{take_at, drop_at, length-take-le}
use borrow.Author.Tests.{le-ltb}
use Rattle.base.specs.Lists.{total, any}
use Rattle.base.proofs.Paired.{All2, all2_total}
use Rattle.book.proofs.Balance.{five_counts, one_fate}
use Rattle.book.proofs.Own.{Owns, owns}
use Rattle.session.specs.declared.Head.{Head}
use Rattle.session.specs.declared.Counters.{Counters}
use Rattle.session.specs.Rules.{Rules}
use Rattle.session.specs.Counting.{fresh_counters, most, raise, raised}
use Rattle.assembler.specs.Call.{Call, CallOk, part_fits}
use Rattle.assembler.specs.Slots.{Slot, Slots, within, impossible}
use Rattle.assembler.specs.Step as act
use Rattle.assembler.specs.Step.{event_of, slots_after, outcome, step_if, step}
use Rattle.assembler.specs.Runs.{World, after_outcome, call_one, call_all}
use Rattle.assembler.specs.View.{head_of}
use Rattle.ledger.specs.Ledger.{Place, idle, holds, held_in, late, Told, tell_one, Ledger, numbered, written, tell, tells, blank, ledger_of, saying_due, unsent}
use Rattle.ledger.specs.Ledger.{Deed, Unlisted, BadFrame, NoSlot, Stray, AtOnce, Opening, Restarting, Reclaiming, Copied, Delivered, Broken, deed_number, is_one_of, as_number, how_many, did, is_some, held}
use Rattle.ledger.specs.Demand3.{heads_in_progress, Agreed}
use Rattle.ledger.specs.Assemblers.{AllOk, none, more, reply_says, seen_of}
use Rattle.ledger.proofs.Moves.{moves}
use Rattle.ledger.proofs.Shows.{Shows}
use Rattle.ledger.proofs.Match.{all_possible, mark_of, Match, match}

-- ---- the counters: each is its count, and no more than the calls so far

pub record Counted (k : Counters) (L : Ledger) : Type 0 where
  pub expired : k.expired_sessions ≡ did Reclaiming L
  pub lost : k.lost_fragments ≡ did Broken L + did Stray L
  pub exhausted : k.pool_exhausted ≡ did NoSlot L
  pub rejected : k.rejected_frames ≡ did BadFrame L
  pub unknown : k.unknown_pgn ≡ did Unlisted L
  pub expired≤ : k.expired_sessions ≤ numbered L
  pub lost≤ : k.lost_fragments ≤ numbered L
  pub exhausted≤ : k.pool_exhausted ≤ numbered L
  pub rejected≤ : k.rejected_frames ≤ numbered L
  pub unknown≤ : k.unknown_pgn ≤ numbered L

counted_blank : (kept : List ℕ) → Counted fresh_counters (blank kept)
unfolding fresh_counters did how_many blank total numbered
counted_blank kept = omega arith

counted_call : (k : Counters) (L : Ledger) (c : Call) (d : Deed) (t : Told) → t.deed ≡ d → numbered L < most → Counted k L → Counted (raised (mark_of d) k) (written L c t)
unfolding raised raise most mark_of written did how_many total is_one_of any deed_number as_number numbered
counted_call k L c Unlisted t e l h = rw e (omega (arith, h))
counted_call k L c BadFrame t e l h = rw e (omega (arith, h))
counted_call k L c NoSlot t e l h = rw e (omega (arith, h))
counted_call k L c Stray t e l h = rw e (omega (arith, h))
counted_call k L c AtOnce t e l h = rw e (omega (arith, h))
counted_call k L c Opening t e l h = rw e (omega (arith, h))
counted_call k L c Restarting t e l h = rw e (omega (arith, h))
counted_call k L c Reclaiming t e l h = rw e (omega (arith, h))
counted_call k L c Copied t e l h = rw e (omega (arith, h))
counted_call k L c Delivered t e l h = rw e (omega (arith, h))
counted_call k L c Broken t e l h = rw e (omega (arith, h))

-- ---- a run and its ledger, call by call

pub record Follows (R : Rules) (w : World) (L : Ledger) : Type 0 where
  pub size : w.pool.size ≤ R.limit
  pub enough : w.pool.size ≤ length w.pool.slots
  pub shows : All2 (Shows R) L.places (within w.pool)
  pub answers : map reply_says w.replies ≡ map saying_due L.entries
  pub sent : any unsent L.entries ≡ false
  pub counts : Counted w.counters L

-- these slots, before any call
unfoldable pub begun : Slots → World
begun p = record { pool = p; counters = fresh_counters; replies = [] }

pub follows_begun : (R : Rules) (p : Slots) (kept : List ℕ) → p.size ≤ R.limit → p.size ≤ length p.slots → All2 (Shows R) (map idle kept) (within p) → Follows R (begun p) (blank kept)
unfolding begun blank
follows_begun R p kept h g shown = record { size = h; enough = g; shows = shown; answers = refl; sent = unfold any in refl; counts = counted_blank kept }

-- step 1 never refuses
pub never_impossible : (R : Rules) (w : World) (L : Ledger) → Follows R w L → impossible R w.pool ≡ false
unfolding impossible
never_impossible R w L h = rw (le-ltb R.limit w.pool.size h.size) (all_possible R h.shows)

module _ (R : Rules) (w : World) (L : Ledger) (c : Call) (ok : CallOk c) (fits : part_fits R c ≡ true) (h : Follows R w L) where
  told : Told
  told = tell_one R (numbered L) L.places c

  happened : act.Event
  happened = event_of R (within w.pool) c

  matched : Match R c (within w.pool) told happened
  unfolding told happened
  matched = match R (numbered L) c ok fits h.shows

  slots_length : length (slots_after c.heard (within w.pool) happened) ≡ w.pool.size
  slots_length = matched.kept ∙ length-take-le w.pool.size w.pool.slots h.enough

  follows_outcome : numbered L < most → Follows R (after_outcome (outcome c.heard happened w.pool w.counters) w.replies) (written L c told)
  unfolding after_outcome outcome written saying_due reply_says
  follows_outcome l =
      record {
        size = h.size;
        enough = omega (arith, length-append (slots_after c.heard (within w.pool) happened) (drop w.pool.size w.pool.slots), slots_length);
        shows = rw (take_at (slots_after c.heard (within w.pool) happened) (drop w.pool.size w.pool.slots) w.pool.size slots_length) matched.shows;
        answers = cc (matched.says, h.answers);
        sent = unfold any unsent in rw matched.sent h.sent;
        counts = rw matched.marks (counted_call w.counters L c told.deed told refl l h.counts);
      }

  pub follows_call : numbered L < most → Follows R (call_one (step R) w c) (tell (tell_one R) L c)
  unfolding call_one step tell step_if told happened
  follows_call l = rw (never_impossible R w L h) (follows_outcome l)

  -- the slots past the size stay as they are
  pub step_rest : drop (call_one (step R) w c).pool.size (call_one (step R) w c).pool.slots ≡ drop w.pool.size w.pool.slots
  unfolding call_one after_outcome step step_if outcome happened
  step_rest = rw (never_impossible R w L h) (drop_at (slots_after c.heard (within w.pool) happened) (drop w.pool.size w.pool.slots) w.pool.size slots_length)

-- over all the calls
pub numbered_tell : (R : Rules) (L : Ledger) (c : Call) → numbered (tell (tell_one R) L c) ≡ suc (numbered L)
unfolding numbered tell written
numbered_tell R L c = refl

follows_calls : (R : Rules) (w : World) (L : Ledger) {cs : List Call} → AllOk R cs → Follows R w L → numbered L + length cs ≤ most → Follows R (call_all (step R) w cs) (tells (tell_one R) L cs)
unfolding call_all tells
follows_calls R w L none h l = h
follows_calls R w L (more {c} {cs} ok fits oks) h l =
    follows_calls R (call_one (step R) w c) (tell (tell_one R) L c) oks (follows_call R w L c ok fits h (omega arith)) (omega (arith, numbered_tell R L c))

pub follows : (R : Rules) (p : Slots) (kept : List ℕ) → Follows R (begun p) (blank kept) → {cs : List Call} → AllOk R cs → length cs ≤ most → Follows R (call_all (step R) (begun p) cs) (ledger_of R kept cs)
unfolding ledger_of
follows R p kept f oks l = follows_calls R (begun p) (blank kept) oks f (unfold numbered blank in omega arith)

-- ---- the slots in progress

held_busy : (R : Rules) (p : Place) (s : Slot) → Shows R p s → as_number (is_some (held_in p)) ≡ as_number s.head.in_progress
unfolding is_some held_in
held_busy R (idle kept) s h = rw h.busy
held_busy R (holds m) s h = rw h.busy

total_heads : (w : Head → ℕ) (ss : List Slot) → total (λ (s : Slot). w s.head) ss ≡ total w (map head_of ss)
unfolding total head_of
total_heads w [] = refl
total_heads w (s ∷ ss) = ap (λ (k : ℕ). w s.head + k) (total_heads w ss)

-- ---- all of it

pub agreed : (R : Rules) (kept : List ℕ) (cs : List Call) (w : World) → Follows R w (ledger_of R kept cs) → Agreed (seen_of w) (ledger_of R kept cs)
unfolding held how_many heads_in_progress seen_of
agreed R kept cs w f =
    let o : Owns (ledger_of R kept cs) = unfold ledger_of in owns (tell_one R) (late R) (moves R) kept cs in
    record {
      answers = f.answers;
      own = o.own;
      sent = f.sent;
      five_counts_add_up = five_counts (ledger_of R kept cs) o.balance;
      exactly_one_fate = one_fate (ledger_of R kept cs) o.balance;
      holding =
          all2_total (λ (p : Place). as_number (is_some (held_in p))) (λ (s : Slot). as_number s.head.in_progress) (held_busy R) f.shows
          ∙ total_heads (λ (h : Head). as_number h.in_progress) (within w.pool);
      expired = f.counts.expired;
      lost = f.counts.lost;
      exhausted = f.counts.exhausted;
      rejected = f.counts.rejected;
      unknown = f.counts.unknown;
    }
