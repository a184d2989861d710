-- A search in the rows beside the heads comes to the place that the single call's walk finds, and where a frame takes no slot any place will do.
-- Assumes nothing.
use Rattle.std.proofs.Common.{◌≡◌, ℕ, suc, ◌+◌, ◌*◌, ◌<◌, ◌≤◌, min, Bool, true, false, not, ◌&&◌, ◌||◌, eqb, ltb, leb, List, [], ◌∷◌, length, get_or, take, drop, set, sym, refl, ap, ◌∙◌, subst, true≢false, add-zero, zero-add, arith, length-take-le, get_or-take, ltb-false, le-ltb, lt-ltb, eq-eqb, ne_eqb}
use mathlib.Core.Option.{Option, none, some}
use lib.Seq.{paste, set-get_or}
use Rattle.base.specs.Pick.{pick}
use Rattle.base.specs.Lists.{next_place, here, first_at}
use Rattle.base.proofs.Cases.{same?}
use Rattle.fast_packet.specs.FastPacket.{max_payload, listed_in}
use Rattle.session.specs.declared.Heard.{Heard}
use Rattle.session.specs.declared.Head.{Head}
use Rattle.session.specs.declared.Plan.{Plan}
use Rattle.session.specs.declared.Kind.{Kind}
use Rattle.session.specs.declared.Kind.TheVariants.{NotListed, Rejected}
use Rattle.session.specs.Counting.{Mark}
use Rattle.std.specs.Prelude.{Some}
use Rattle.session.specs.declared.Counter.TheVariants as counter
use Rattle.session.specs.declared.Counters.{Counters}
use Rattle.session.specs.declared.Mode.{Mode}
use Rattle.session.specs.declared.PoolKind.{PoolKind}
use Rattle.session.specs.Rules.{rules_by, pool_limit, silent_by, three_equal, keys_equal}
use Rattle.session.specs.Frames.{sequence_of, index_of, size_of, bad_size, bad_first, key_of}
use Rattle.session.specs.Heads.{copied_head, head_key, has_key, is_silent, is_free, is_free_of_source, has_live_key}
use Rattle.session.specs.inner.Search.{seen, seen_if, found_in, first_of, place_of, within_limit}
use Rattle.session.specs.inner.Plan.{Silent, idle, plan_open, plan_short, plan_sized, plan_first, plan_copy, plan_turn, plan_next, plan_index, plan_sent, plan_listed, plan_of}
use Rattle.base.proofs.Bools.{or_left, or_right}
use Rattle.session.proofs.Cuts.{eight_sent, eight_bad}
use Rattle.session.proofs.SearchLaws.{same_limit}
use Rattle.session.proofs.Seen.{place, seen_key, seen_live, seen_own, seen_free}
use Rattle.assembler.specs.declared.Pool.{Pool}
use Rattle.assembler.specs.declared.Received.{Received}
use Rattle.assembler.specs.Call.{part_fits}
use Rattle.assembler.specs.Slots.{impossible}
use Rattle.assembler.specs.Step.{step}
use Rattle.assembler.specs.View.{slots_of, shown, receive_of}
use Rattle.assembler.proofs.Copies.{copy_none}
use Rattle.assembler.proofs.Views.{Whole, Sized, view_forth}
use Rattle.assembler.proofs.Views.{sized_view}
use Rattle.assembler.proofs.Keeps.{keeps}
use Rattle.assembler.proofs.Carries.{carried, Fits, Does, receives}
use Rattle.batch.specs.inner.Mirror.{packed, key_number, frame_key, InRange, Keyed, Shows, Mirrors, first_from, key_at, open_at, own_at, live_at, chosen_in, live_in, quiet, sought}
use Rattle.batch.specs.inner.Ways.{short_in, miss_kind, miss_mark, runs_on}
use Rattle.batch.proofs.WayLaws.{plan_missed, short_plan, plan_short_lem, run_plan, plan_runs}
use Rattle.assembler.proofs.Crowded.{looked_at}

-- ---- a packed key tells its four parts apart, where one of the two has none or a destination

module _ (s p b d s' p' b' d' : ℕ) (r : InRange s p b) (r' : InRange s' p' b') (few : d' ≤ 256) where
  same_part : packed s p b d ≡ packed s' p' b' d' → d ≡ d'
  unfolding packed
  same_part e = omega (arith, e, r.source, r.pgn, r.byte, r'.source, r'.pgn, r'.byte, few)

  same_source : packed s p b d ≡ packed s' p' b' d' → s ≡ s'
  unfolding packed
  same_source e = omega (arith, e, r.source, r.pgn, r.byte, r'.source, r'.pgn, r'.byte, few)

  same_pgn : packed s p b d ≡ packed s' p' b' d' → p ≡ p'
  unfolding packed
  same_pgn e = omega (arith, e, r.source, r.pgn, r.byte, r'.source, r'.pgn, r'.byte, few)

  same_byte : packed s p b d ≡ packed s' p' b' d' → b ≡ b'
  unfolding packed
  same_byte e = omega (arith, e, r.source, r.pgn, r.byte, r'.source, r'.pgn, r'.byte, few)

  packed_test : eqb (packed s p b d) (packed s' p' b' d') ≡ (eqb s s' && eqb p p' && eqb b b' && eqb d d')
  packed_test =
      same? s s'
      (λ es. same? p p'
      (λ ep. same? b b'
      (λ eb. same? d d'
      (λ ed. rw (eq-eqb s s' es, eq-eqb p p' ep, eq-eqb b b' eb, eq-eqb d d' ed) (eq-eqb (packed s p b d) (packed s' p' b' d') (rw (es, ep, eb, ed))))
      (λ nd. rw (eq-eqb s s' es, eq-eqb p p' ep, eq-eqb b b' eb, ne_eqb d d' nd) (ne_eqb (packed s p b d) (packed s' p' b' d') (λ e. nd (same_part e)))))
      (λ nb. rw (eq-eqb s s' es, eq-eqb p p' ep, ne_eqb b b' nb) (ne_eqb (packed s p b d) (packed s' p' b' d') (λ e. nb (same_byte e)))))
      (λ np. rw (eq-eqb s s' es, ne_eqb p p' np) (ne_eqb (packed s p b d) (packed s' p' b' d') (λ e. np (same_pgn e)))))
      (λ ns. rw (ne_eqb s s' ns) (ne_eqb (packed s p b d) (packed s' p' b' d') (λ e. ns (same_source e))))

idle_test : (s p b d : ℕ) → eqb 0 (packed s p b d) ≡ false
unfolding packed
idle_test s p b d = ne_eqb 0 (min d 511 * 281474976710656 + s * 1099511627776 + p * 256 + b + 1) (λ e. absurd (omega (arith, e)))

busy_test : (s p b d : ℕ) → eqb (packed s p b d) 0 ≡ false
unfolding packed
busy_test s p b d = ne_eqb (min d 511 * 281474976710656 + s * 1099511627776 + p * 256 + b + 1) 0 (λ e. absurd (omega (arith, e)))

-- ---- the tests of a place are those of its head

module _ (kind : PoolKind) (mode : Mode) (f : Heard) (h : Head) (k o t : ℕ) (s : Shows h k o t) where
  shown_key : Keyed f → eqb k (frame_key f) ≡ has_key (rules_by kind mode) f h
  unfolding has_key rules_by three_equal keys_equal head_key key_of key_number frame_key pick
  shown_key r = go h.in_progress refl
    where
      go : (b : Bool) → h.in_progress ≡ b → eqb k (frame_key f) ≡ has_key (rules_by kind mode) f h
      go true e =
          let low : sequence_of f < 256 = unfold sequence_of in omega (arith, r.range.byte) in
          rw (s.key, e)
          (packed_test h.source_address h.pgn h.sequence_id h.part f.source_address f.pgn (sequence_of f) f.part s.range (record { source = r.range.source; pgn = r.range.pgn; byte = low }) r.part)
      go false e = rw (s.key, e) (idle_test f.source_address f.pgn (sequence_of f) f.part)

  shown_silent : silent_by mode f.now_ms t ≡ is_silent (rules_by kind mode) f h
  unfolding is_silent rules_by
  shown_silent = rw s.last

  idle_key : eqb k 0 ≡ not h.in_progress
  unfolding key_number pick
  idle_key = go h.in_progress refl
    where
      go : (b : Bool) → h.in_progress ≡ b → eqb k 0 ≡ not h.in_progress
      go true e = rw (s.key, e) (busy_test h.source_address h.pgn h.sequence_id h.part)
      go false e = rw (s.key, e)

  shown_open : (eqb k 0 || silent_by mode f.now_ms t) ≡ is_free (rules_by kind mode) f h
  unfolding is_free
  shown_open = rw (idle_key, shown_silent)

  shown_own : ((eqb k 0 || silent_by mode f.now_ms t) && eqb o f.source_address) ≡ is_free_of_source (rules_by kind mode) f h
  unfolding is_free_of_source
  shown_own = rw (shown_open, s.owner)

  shown_live : Keyed f → (eqb k (frame_key f) && not (silent_by mode f.now_ms t)) ≡ has_live_key (rules_by kind mode) f h
  unfolding has_live_key
  shown_live r = rw (shown_key r, shown_silent)

-- ---- the walk over places is the search over heads

ixed : ℕ → Option ℕ → ℕ
ixed i none = pool_limit
ixed i (some j) = i + j

ixed_here : (b : Bool) (i : ℕ) (o : Option ℕ) → pick b i (ixed (suc i) o) ≡ ixed i (here b o)
unfolding pick ixed here next_place
ixed_here true i o = sym (add-zero i)
ixed_here false i none = refl
ixed_here false i (some j) = omega arith

ixed_place : (o : Option ℕ) → ixed 0 o ≡ place o
unfolding ixed place
ixed_place none = refl
ixed_place (some j) = zero-add j

from_first : (t : ℕ → Bool) (u : Head → Bool) (d : Head) (hs : List Head) (i : ℕ) → ((j : ℕ) → j < length hs → t (i + j) ≡ u (get_or hs j d)) → first_from t i (length hs) ≡ ixed i (first_at u hs)
unfolding first_from first_at ixed
from_first t u d [] i same = refl
from_first t u d (h ∷ hs) i same =
    let at : t i ≡ u h = rw (add-zero i) at (same 0 (omega arith)) in
    let rest = from_first t u d hs (suc i) (λ j l. let k : suc i + j ≡ i + suc j = omega arith in rw k (same (suc j) (omega arith))) in
    rw (at, rest) (ixed_here (u h) i (first_at u hs))

module _ (kind : PoolKind) (mode : Mode) (f : Heard) (n : ℕ) (hs : List Head) (ks os ts : List ℕ) (long : length hs ≡ pool_limit) (small : n ≤ pool_limit) (m : Mirrors pool_limit hs ks os ts) (r : Keyed f) (d : Head) where
  one : (t : ℕ → Bool) (u : Head → Bool) → ((j : ℕ) → j < pool_limit → t j ≡ u (get_or hs j d)) → first_from t 0 n ≡ place (first_at u (take n hs))
  one t u same =
      let all : length (take n hs) ≡ n = length-take-le n hs (omega (arith, long)) in
      ap (first_from t 0) (sym all)
      ∙ from_first t u d (take n hs) 0 (λ j l. rw (zero-add j, get_or-take n hs j d (omega (arith, all))) (same j (omega (arith, all))))
      ∙ ixed_place (first_at u (take n hs))

  pub seen_here : found_in (rules_by kind mode) f n hs ≡ seen (rules_by kind mode) f 0 (take n hs)
  unfolding found_in seen_if
  seen_here = rw (le-ltb pool_limit n small)

  pub chosen_is : chosen_in mode ks os ts n (frame_key f) f.source_address f.now_ms ≡ first_of (found_in (rules_by kind mode) f n hs).key (first_of (found_in (rules_by kind mode) f n hs).own (found_in (rules_by kind mode) f n hs).free)
  unfolding chosen_in
  chosen_is =
      rw (
        seen_here,
        seen_key (rules_by kind mode) f (take n hs),
        seen_own (rules_by kind mode) f (take n hs),
        seen_free (rules_by kind mode) f (take n hs),
        one (key_at ks (frame_key f)) (has_key (rules_by kind mode) f) (λ j l. unfold key_at in shown_key kind mode f (get_or hs j d) _ _ _ (m.at j d l) r),
        one (own_at mode ks os ts f.source_address f.now_ms) (is_free_of_source (rules_by kind mode) f) (λ j l. unfold own_at open_at in shown_own kind mode f (get_or hs j d) _ _ _ (m.at j d l)),
        one (open_at mode ks ts f.now_ms) (is_free (rules_by kind mode) f) (λ j l. unfold open_at in shown_open kind mode f (get_or hs j d) _ _ _ (m.at j d l)),
      )

  pub live_is : live_in mode ks ts n (frame_key f) f.now_ms ≡ (found_in (rules_by kind mode) f n hs).live
  unfolding live_in
  live_is =
      rw (seen_here, seen_live (rules_by kind mode) f (take n hs))
      (one (live_at mode ks ts (frame_key f) f.now_ms) (has_live_key (rules_by kind mode) f) (λ j l. unfold live_at in shown_live kind mode f (get_or hs j d) _ _ _ (m.at j d l) r))

-- ---- where a frame takes no slot, the plan may be carried out at any place

module _ (f : Heard) (p : Pool) (k : Counters) (e : Head) where
  -- a plan that leaves the head as it is, and copies nothing to its buffer
  record Still (plan : Head → Plan) : Type 0 where
    same : (g g' : ℕ) → carried (plan (get_or p.heads g e)) g f p k ≡ carried (plan (get_or p.heads g' e)) g' f p k
    fits : (h h' : Head) → Fits (plan h) → Fits (plan h')

  moves : {plan : Head → Plan} {a : Received} → Still plan → (g g' : ℕ) → Does f p k (plan (get_or p.heads g e)) g a → Does f p k (plan (get_or p.heads g' e)) g' a
  moves s g g' does = record { fits = s.fits _ _ does.fits; is = s.same g' g ∙ does.is }

  still_idle : (kind : Kind) (mark : Mark) → Still (idle kind mark)
  still_idle kind mark =
      record {
        same = λ g g'. unfold idle carried in rw (set-get_or p.heads g e, set-get_or p.heads g' e, sym (copy_none p.bytes (g * 223 + 0)), sym (copy_none p.bytes (g' * 223 + 0)));
        fits = λ h h' x. unfold idle in record { room = x.room; there = x.there; whole = x.whole; short = x.short; total = x.total };
      }

  still_short : (S : Silent) (t : Bool) → Still (plan_short true t S f)
  still_short S t =
      record {
        same = λ g g'. unfold plan_short carried in rw (set-get_or p.heads g e, set-get_or p.heads g' e, sym (copy_none p.bytes (g * 223 + 0)), sym (copy_none p.bytes (g' * 223 + 0)));
        fits = λ h h' x. unfold plan_short in record { room = x.room; there = x.there; whole = x.whole; short = x.short; total = x.total };
      }

-- a frame that may take a slot is no message by itself
loud_short : (S : Silent) (f : Heard) (h : Head) → (b : Bool) → leb (size_of f) 6 ≡ b → b ≡ false → (plan_short b true S f h).short ≡ 0
unfolding plan_short plan_open
loud_short S f h true e n = absurd (true≢false n)
loud_short S f h false e n = refl

loud_sized : (S : Silent) (f : Heard) (h : Head) → quiet f ≡ false → (b : Bool) → (plan_sized b true S f h).short ≡ 0
unfolding plan_sized idle quiet
loud_sized S f h q true = refl
loud_sized S f h q false = loud_short S f h (leb (size_of f) 6) refl (or_left (leb (size_of f) 6) _ q)

copy_short : (f : Heard) (h : Head) (b : Bool) → (plan_copy b f h).short ≡ 0
unfolding plan_copy
copy_short f h true = refl
copy_short f h false = refl

turn_short : (f : Heard) (h : Head) (b : Bool) → (plan_turn b f h).short ≡ 0
unfolding plan_turn idle
turn_short f h true = copy_short f h _
turn_short f h false = refl

next_short : (f : Heard) (h : Head) → (plan_next true f h).short ≡ 0
unfolding plan_next
next_short f h = turn_short f h _

-- ---- the search's place carries the frame out

pub small_of : (kind : PoolKind) (mode : Mode) (p : Pool) → impossible (rules_by kind mode) (slots_of p) ≡ false → p.size ≤ pool_limit
unfolding impossible slots_of rules_by
small_of kind mode p fine = ltb-false pool_limit p.size (or_left (ltb pool_limit p.size) _ fine)

module _ (kind : PoolKind) (mode : Mode) (l : List ℕ) (f : Heard) (p : Pool) (k : Counters) (w : Whole p) (eight : length f.«data» ≡ 8) (all : f.length ≡ 8) (e : Head) (fine : impossible (rules_by kind mode) (slots_of p) ≡ false) where
  -- with a possible pool, the plan made at place i and carried out there is the call
  abbrev At : Bool → ℕ → Type 0
  At t i = Does f p k (plan_of false t (ltb i pool_limit) (silent_by mode) f (get_or p.heads (within_limit i) e)) (within_limit i) (receive_of (rules_by kind mode) l f p k)

  abbrev real : ℕ
  real = place_of f (found_in (rules_by kind mode) f p.size p.heads)

  at_real : (t : Bool) → t ≡ listed_in f.pgn l → At t real
  unfolding rules_by
  at_real t et =
      rw et
      (subst (λ (b : Bool). Does f p k (plan_of b (listed_in f.pgn l) (ltb real pool_limit) (silent_by mode) f (get_or p.heads (within_limit real) e)) (within_limit real) (receive_of (rules_by kind mode) l f p k))
      (looked_at (rules_by kind mode) f p (same_limit kind mode) ∙ fine) (receives (rules_by kind mode) f p k w eight e l (same_limit kind mode)))

  at_unlisted : (i : ℕ) → At false real → At false i
  unfolding plan_of plan_listed
  at_unlisted i x = moves f p k e (still_idle f p k e NotListed (Some counter.Unknown)) (within_limit real) (within_limit i) x

  -- a PGN that is not listed: no key is asked
  pub seeks_unlisted : false ≡ listed_in f.pgn l → Does f p k (idle NotListed (Some counter.Unknown) (get_or p.heads 0 e)) 0 (receive_of (rules_by kind mode) l f p k)
  unfolding plan_of plan_listed within_limit pick
  seeks_unlisted et = at_unlisted 0 (at_real false et)

  at_rejected : (i : ℕ) → eqb (index_of f) 0 ≡ true → bad_size f ≡ true → At true real → At true i
  unfolding plan_of plan_listed plan_sent plan_index plan_first plan_sized
  at_rejected i z b x =
      rw (eight_sent f all, z, eight_bad f all, b) (moves f p k e (still_idle f p k e Rejected (Some counter.Rejected)) (within_limit real) (within_limit i) (rw (eight_sent f all, z, eight_bad f all, b) at x))

  at_short : (i : ℕ) → eqb (index_of f) 0 ≡ true → bad_size f ≡ false → leb (size_of f) 6 ≡ true → At true real → At true i
  unfolding plan_of plan_listed plan_sent plan_index plan_first plan_sized plan_short
  at_short i z b s x =
      rw (eight_sent f all, z, eight_bad f all, b, s) (moves f p k e (still_short f p k e (silent_by mode) true) (within_limit real) (within_limit i) (rw (eight_sent f all, z, eight_bad f all, b, s) at x))

  quiet_short : bad_size f ≡ false → quiet f ≡ true → leb (size_of f) 6 ≡ true
  unfolding bad_size quiet
  quiet_short b y = go (leb (size_of f) 6) y
    where
      go : (t : Bool) → (t || ltb max_payload (size_of f)) ≡ true → t ≡ true
      go true h = refl
      go false h = sym (or_right (eqb (size_of f) 0) _ b) ∙ h

  at_quiet : (i : ℕ) → eqb (index_of f) 0 ≡ true → quiet f ≡ true → At true real → At true i
  at_quiet i z y x = go (bad_size f) refl
    where
      go : (b : Bool) → bad_size f ≡ b → At true i
      go true b = at_rejected i z b x
      go false b = at_short i z b (quiet_short b y) x

  module _ (ks os ts : List ℕ) (m : Mirrors pool_limit p.heads ks os ts) (r : Keyed f) where
    real_first : eqb (index_of f) 0 ≡ true → chosen_in mode ks os ts p.size (frame_key f) f.source_address f.now_ms ≡ real
    unfolding place_of pick
    real_first z = rw z (chosen_is kind mode f p.size p.heads ks os ts w.heads (small_of kind mode p fine) m r e)

    real_next : eqb (index_of f) 0 ≡ false → live_in mode ks ts p.size (frame_key f) f.now_ms ≡ real
    unfolding place_of pick
    real_next z = rw z (live_is kind mode f p.size p.heads ks os ts w.heads (small_of kind mode p fine) m r e)

    at_index : (b : Bool) → eqb (index_of f) 0 ≡ b → (y : Bool) → quiet f ≡ y → At true real
        → At true (pick b (pick y pool_limit (chosen_in mode ks os ts p.size (frame_key f) f.source_address f.now_ms)) (live_in mode ks ts p.size (frame_key f) f.now_ms))
    unfolding pick
    at_index true z true q x = at_quiet pool_limit z q x
    at_index true z false q x = subst (At true) (sym (real_first z)) x
    at_index false z y q x = subst (At true) (sym (real_next z)) x

    at_sought : (t : Bool) → t ≡ listed_in f.pgn l → At t (sought mode ks os ts p.size t (frame_key f) f)
    unfolding sought pick
    at_sought true et = at_index (eqb (index_of f) 0) refl (quiet f) refl (at_real true et)
    at_sought false et = at_unlisted pool_limit (at_real false et)

    -- as the code comes by it
    module _ (t : Bool) (et : t ≡ listed_in f.pgn l) (key : ℕ) (ek : key ≡ frame_key f) (i : ℕ) (ei : i ≡ sought mode ks os ts p.size t key f) where
      at_place : At t i
      at_place = let at : i ≡ sought mode ks os ts p.size t (frame_key f) f = ei ∙ rw ek in rw at (at_sought t et)

      -- no slot
      at_none : pool_limit ≤ i → Does f p k (plan_of false t false (silent_by mode) f (get_or p.heads 0 e)) 0 (receive_of (rules_by kind mode) l f p k)
      unfolding within_limit pick
      at_none past = rw (le-ltb i pool_limit past) at at_place

      pub seeks_missed : pool_limit ≤ i → (s : ℕ) → s ≡ short_in t f → s ≡ 0 → Does f p k (idle (miss_kind t f) (miss_mark t f) (get_or p.heads 0 e)) 0 (receive_of (rules_by kind mode) l f p k)
      seeks_missed past s es z = rw (plan_missed (silent_by mode) f all (get_or p.heads 0 e) t (sym z ∙ es)) at (at_none past)

      pub seeks_short : pool_limit ≤ i → (s : ℕ) → s ≡ short_in t f → (s ≡ 0 → ⊥) → Does f p k (short_plan f (get_or p.heads 0 e) s) 0 (receive_of (rules_by kind mode) l f p k)
      seeks_short past s es n = rw es (rw (plan_short_lem (silent_by mode) f all (get_or p.heads 0 e) t (λ z. n (es ∙ z))) at (at_none past))

      -- a slot: then the PGN is listed, and the frame is no message by itself
      module _ (low : i < pool_limit) where
        slot_listed : (b : Bool) → t ≡ b → b ≡ true
        unfolding sought pick
        slot_listed true e = refl
        slot_listed false e = absurd (omega (arith, low, rw e at ei))

        at_slot : Does f p k (plan_of false true true (silent_by mode) f (get_or p.heads i e)) i (receive_of (rules_by kind mode) l f p k)
        unfolding within_limit pick
        at_slot = rw (lt-ltb i pool_limit low, slot_listed t refl) at at_place

        pub seeks_slot : (d : Plan) → d ≡ plan_of false true true (silent_by mode) f (get_or p.heads i e) → Does f p k d i (receive_of (rules_by kind mode) l f p k)
        seeks_slot d ed = rw ed at_slot

        pub seeks_running : (b : Bool) → b ≡ runs_on f (get_or p.heads i e) → b ≡ true → Does f p k (run_plan f (get_or p.heads i e)) i (receive_of (rules_by kind mode) l f p k)
        seeks_running b eb y = rw (plan_runs (silent_by mode) f all (get_or p.heads i e) (sym eb ∙ y)) at at_slot

        slot_loud : eqb (index_of f) 0 ≡ true → (y : Bool) → quiet f ≡ y → y ≡ false
        unfolding sought pick
        slot_loud z true q = absurd (omega (arith, low, rw (slot_listed t refl, z, q) at ei))
        slot_loud z false q = refl

        slot_index : (h : Head) (b : Bool) → eqb (index_of f) 0 ≡ b → (plan_index b true (silent_by mode) f h).short ≡ 0
        unfolding plan_index plan_first
        slot_index h true z = loud_sized (silent_by mode) f h (slot_loud z (quiet f) refl) (bad_first f)
        slot_index h false z = next_short f h

        pub slot_alone : (d : Plan) (h : Head) → d ≡ plan_of false true true (silent_by mode) f h → d.short ≡ 0
        unfolding plan_of plan_listed plan_sent
        slot_alone d h ed = ap (λ (x : Plan). x.short) ed ∙ rw (eight_sent f all) (slot_index h (eqb (index_of f) 0) refl)

-- ---- a possible pool stays possible

module _ (kind : PoolKind) (mode : Mode) (l : List ℕ) (f : Heard) (p : Pool) (k : Counters) (w : Whole p) (eight : length f.«data» ≡ 8) (byte : get_or f.«data» 0 0 < 256) (part : part_fits (rules_by kind mode) (record { pgns = l; heard = f }) ≡ true) (fine : impossible (rules_by kind mode) (slots_of p) ≡ false) where
  pub call_possible : impossible (rules_by kind mode) (slots_of (receive_of (rules_by kind mode) l f p k).pool) ≡ false
  unfolding receive_of shown
  call_possible =
      let kept = keeps (rules_by kind mode) (slots_of p) k (record { pgns = l; heard = f }) (record { eight = eight; byte = byte }) part fine in
      let all : Sized (slots_of p).slots = unfold slots_of in sized_view p.heads p.bytes (omega (arith, w.heads, w.bytes)) in
      rw (view_forth p.kind p.mode (step (rules_by kind mode) (slots_of p) k (record { pgns = l; heard = f })).pool (kept.sized all)) kept.possible

  pub stays_possible : (d : Plan) (g : ℕ) → Does f p k d g (receive_of (rules_by kind mode) l f p k) → (bs : List ℕ) → bs ≡ paste p.bytes (g * 223 + d.at) (drop d.from f.«data») d.count
      → impossible (rules_by kind mode) (slots_of (record { kind = p.kind; mode = p.mode; size = p.size; heads = set p.heads g d.head; bytes = bs })) ≡ false
  unfolding carried
  stays_possible d g does bs eb =
      let after : record { kind = p.kind; mode = p.mode; size = p.size; heads = set p.heads g d.head; bytes = bs } ≡ (receive_of (rules_by kind mode) l f p k).pool = rw eb (ap (λ (a : Received). a.pool) does.is) in
      rw after call_possible

  pub runs_possible : (e : Head) (g : ℕ) → Does f p k (run_plan f (get_or p.heads g e)) g (receive_of (rules_by kind mode) l f p k) → (t : Head) → t ≡ copied_head f (get_or p.heads g e)
      → (bs : List ℕ) → bs ≡ paste p.bytes (g * 223 + (get_or p.heads g e).current_size) (drop 1 f.«data») 7 → impossible (rules_by kind mode) (slots_of (record { kind = p.kind; mode = p.mode; size = p.size; heads = set p.heads g t; bytes = bs })) ≡ false
  unfolding run_plan
  runs_possible e g does t et bs ebs = rw et (stays_possible (run_plan f (get_or p.heads g e)) g does bs ebs)
