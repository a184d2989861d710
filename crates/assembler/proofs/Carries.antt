-- The plan, carried out on the pool, is the step. It holds for any rules whose limit is the code's. Assumes nothing.
use Prim.Native.Nat.{ℕ, ◌+◌, ◌*◌, ◌≤◌, ◌<◌}
use mathlib.Core.Path.{◌≡◌, refl, sym, ap, subst, ◌∙◌}
use mathlib.Core.Bool.{Bool, true, false, ◌||◌}
use mathlib.Core.Option.{Option, none, some}
use mathlib.Core.List.{List, []}
use lib.ListN.{length, get_or, take, drop, set, replicate, length-drop}
use lib.Seq.{paste, length-paste, length-take-le, set-get_or, get_or-take}
use lib.Dec.{eqb, ltb, leb}
use native.Mathlib.Omega.{arith}
use native.Mathlib.Nat.{zero-add, add-zero}
use borrow.Author.Tests.{ltb-false, leb-true}
use Rattle.base.specs.Answer.{refuses}
use Rattle.base.specs.Pick.{pick}
use Rattle.base.specs.Lists.{first_at, any}
use Rattle.base.proofs.First.{first_passes}
use Rattle.fast_packet.specs.FastPacket.{listed_in}
use Rattle.session.specs.declared.Heard.{Heard}
use Rattle.session.specs.declared.Head.{Head}
use Rattle.session.specs.declared.Found.{Found}
use Rattle.session.specs.declared.Plan.{Plan}
use Rattle.session.specs.declared.Counters.{Counters}
use Rattle.session.specs.declared.Kind.TheVariants.{ImpossiblePool}
use Rattle.std.specs.Prelude.{None}
use Rattle.session.specs.Rules.{Rules, pool_limit}
use Rattle.session.specs.Frames.{index_of, size_of, first_bytes, next_bytes, is_empty, bad_first}
use Rattle.session.specs.Heads.{impossible_head, has_key, is_free, is_free_of_source, has_live_key, is_silent, is_expired, is_next, opened_head, reset_head, wanted, copied_head, all_there}
use Rattle.session.specs.Counting.{raised}
use Rattle.session.specs.inner.Search.{nothing_found, seen, seen_if, found_in, first_of, place_of, within_limit}
use Rattle.session.specs.inner.Plan.{is_late, idle, plan_open, plan_short, plan_sized, plan_first, plan_copy, plan_turn, plan_next, plan_index, plan_sent, plan_listed, plan_of}
use Rattle.session.proofs.Seen.{found, place, spot, Inside, placed_found, placed_spot, inside_first, inside_or, first_of_lem, seen_bad, seen_key, seen_live, seen_own, seen_free}
use Rattle.session.proofs.Sound.{Sound, sound, none_at, busy_live}
use Rattle.assembler.specs.declared.Pool.{Pool}
use Rattle.assembler.specs.declared.Received.{Received}
use Rattle.assembler.specs.Slots.{Slot, fresh_slot, on_head, impossible, chosen, live, opened_slot, reset_slot, copied_slot}
use Rattle.assembler.specs.Step.{Event, not_listed, rejected, short_message, pool_full, stray, opens_at, continues_at, event_of, slots_after, mark_of, Why, unlisted, bad_frame, no_slot, lost, ignored, padded, message, said_of, outcome, step_if, step}
use Rattle.assembler.proofs.Events.{first_short, first_sized, copy_at, turn_at, by_index, by_sent, by_list}
use Rattle.assembler.specs.Making.{pool_bytes}
use Rattle.assembler.specs.View.{slots_from, slots_of, zeros, why_kind, reply_kind, reply_payload, reply_length, shown, receive_of}
use Rattle.assembler.proofs.Copies.{copy_none, paste_over}
use Rattle.assembler.proofs.Views.{Whole, slots_long, slot_at_lem, view_back, view_same, view_set, read_back, first_view, any_view}

-- the code's last lines: the plan d at place g
unfoldable pub carried : Plan → ℕ → Heard → Pool → Counters → Received
carried d g f p k =
    record {
      kind = d.kind;
      payload =
          paste (paste (replicate 223 0) 0 (drop (g * 223) (paste p.bytes (g * 223 + d.at) (drop d.from f.«data») d.count)) d.whole) 0 (drop 2 f.«data») d.short;
      length = d.whole + d.short;
      pool = record { kind = p.kind; mode = p.mode; size = p.size; heads = set p.heads g d.head; bytes = paste p.bytes (g * 223 + d.at) (drop d.from f.«data») d.count };
      counters = raised d.mark k;
    }

-- what the copies ask
pub record Fits (d : Plan) : Type 0 where
  pub room : d.at + d.count ≤ 223
  pub there : d.from + d.count ≤ 8
  pub whole : d.whole ≤ 223
  pub short : d.short ≤ 6
  pub total : d.whole + d.short ≤ 223

-- the plan fits, and carried out at place g it gives a
pub record Does (f : Heard) (p : Pool) (k : Counters) (d : Plan) (g : ℕ) (a : Received) : Type 0 where
  pub fits : Fits d
  pub is : carried d g f p k ≡ a

-- a message over zeros is the message, padded
over_zeros : (s : List ℕ) (n : ℕ) → n ≤ length s → paste (replicate 223 0) 0 s n ≡ padded (take n s)
unfolding padded
over_zeros s n h = sym (rw (length-take-le n s h) (paste_over 223 0 s n))

module _ (R : Rules) (f : Heard) (p : Pool) (k : Counters) (w : Whole p) (eight : length f.«data» ≡ 8) (d : Head) where
  -- the slots within the size
  abbrev slots : List Slot
  slots = take p.size (slots_from p.heads p.bytes)

  abbrev after : Event → Received
  after e = shown p.kind p.mode (outcome f e (slots_of p) k)

  does_ignored : (e : Event) (why : Why) (g : ℕ) → said_of f slots e ≡ ignored why → slots_after f slots e ≡ slots → Does f p k (idle (why_kind why) (mark_of e) (get_or p.heads g d)) g (after e)
  unfolding idle carried shown outcome slots_of reply_kind reply_payload reply_length zeros
  does_ignored e why g said kept =
      record {
        fits = record { room = omega arith; there = omega arith; whole = omega arith; short = omega arith; total = omega arith };
        is = rw (said, kept, set-get_or p.heads g d, sym (copy_none p.bytes (g * 223 + 0)), view_same p w);
      }

  does_refused : (g : ℕ) → Does f p k (idle ImpossiblePool None (get_or p.heads g d)) g (shown p.kind p.mode (record { reply = refuses 1 []; pool = slots_of p; counters = k }))
  unfolding idle carried shown reply_kind pick reply_payload reply_length zeros raised
  does_refused g =
      record {
        fits = record { room = omega arith; there = omega arith; whole = omega arith; short = omega arith; total = omega arith };
        is = rw (set-get_or p.heads g d, sym (copy_none p.bytes (g * 223 + 0)), view_back p w);
      }

  first_six : length (first_bytes f) ≡ 6
  unfolding first_bytes
  first_six = simp length-drop (rw eight)

  next_seven : length (next_bytes f) ≡ 7
  unfolding next_bytes
  next_seven = simp length-drop (rw eight)

  does_short : (t : Bool) (g : ℕ) → size_of f ≤ 6 → Does f p k (plan_short true t R.silent f (get_or p.heads g d)) g (after short_message)
  unfolding plan_short carried shown outcome said_of slots_after mark_of slots_of message first_bytes reply_kind reply_payload reply_length
  does_short t g h =
      let reach : size_of f ≤ length (drop 2 f.«data») = omega (arith, first_six) in
      record {
        fits = record { room = omega arith; there = omega arith; whole = omega arith; short = h; total = omega arith };
        is =
            rw (
              set-get_or p.heads g d,
              sym (copy_none p.bytes (g * 223 + 0)),
              view_same p w,
              length-take-le (size_of f) (drop 2 f.«data») reach,
              ← over_zeros (drop 2 f.«data») (size_of f) reach,
              zero-add (size_of f),
            );
      }

  module _ (small : p.size ≤ pool_limit) where
    slot_here : (i : ℕ) → i < p.size → get_or slots i fresh_slot ≡ record { head = get_or p.heads i d; buffer = take 223 (drop (i * 223) p.bytes) }
    slot_here i h = get_or-take p.size (slots_from p.heads p.bytes) i fresh_slot h ∙ slot_at_lem p.heads p.bytes i d fresh_slot (omega (arith, w.heads))

    does_open : (o : Option ℕ) → Inside p.size o → Does f p k (plan_open (found o) R.silent f (get_or p.heads (spot o) d)) (spot o) (after (opens_at R f slots o))
    unfolding found spot plan_open is_late opens_at is_expired is_silent
    does_open none u = unfold mark_of said_of slots_after why_kind in does_ignored pool_full no_slot 0 refl refl
    does_open (some i) u =
        record {
          fits = record { room = omega arith; there = omega arith; whole = omega arith; short = omega arith; total = omega arith };
          is =
              unfold carried shown outcome said_of slots_after mark_of slots_of opened_slot first_bytes reply_kind reply_payload reply_length zeros in
              rw (slot_here i u, view_set p w i (opened_head f) 0 (drop 2 f.«data») 6 u small (omega arith) (unfold first_bytes in omega (arith, first_six)));
        }

    module _ (i : ℕ) (u : i < p.size) where
      abbrev head : Head
      head = get_or p.heads i d

      fit : Sound head → head.current_size + wanted head ≤ 223
      unfolding wanted
      fit s = omega (arith, s.most, s.below)

      few : 1 + wanted head ≤ 8
      unfolding wanted
      few = omega arith

      enough : wanted head ≤ length (drop 1 f.«data»)
      unfolding wanted next_bytes
      enough = omega (arith, next_seven)

      does_copy : Sound head → (b : Bool) → Does f p k (plan_copy b f head) i (after (copy_at b i))
      unfolding plan_copy pick copied_slot carried shown outcome said_of slots_after mark_of slots_of reset_slot copied_head next_bytes message reply_kind reply_payload reply_length zeros
      does_copy s false =
          record {
            fits = record { room = fit s; there = few; whole = omega arith; short = omega arith; total = omega arith };
            is = rw (slot_here i u, view_set p w i (copied_head f head) head.current_size (drop 1 f.«data») (wanted head) u small (fit s) enough);
          }
      does_copy s true =
          let bytes : List ℕ = paste p.bytes (i * 223 + head.current_size) (drop 1 f.«data») (wanted head) in
          let buffer : List ℕ = paste (take 223 (drop (i * 223) p.bytes)) head.current_size (drop 1 f.«data») (wanted head) in
          let long : length bytes ≡ pool_bytes = length-paste p.bytes (i * 223 + head.current_size) (drop 1 f.«data») (wanted head) (omega (arith, w.bytes, fit s)) enough ∙ w.bytes in
          let reach : head.expected_size ≤ length (drop (i * 223) bytes) = simp length-drop (omega (arith, long, s.most)) in
          let same : take head.expected_size (drop (i * 223) bytes) ≡ take head.expected_size buffer =
          read_back p.bytes (i * 223) head.current_size (drop 1 f.«data») (wanted head) (omega (arith, w.bytes)) (fit s) enough head.expected_size s.most in
          record {
            fits = record { room = fit s; there = few; whole = s.most; short = omega arith; total = omega (arith, s.most) };
            is =
                rw (
                  slot_here i u,
                  view_set p w i (reset_head (copied_head f head)) head.current_size (drop 1 f.«data») (wanted head) u small (fit s) enough,
                  over_zeros (drop (i * 223) bytes) head.expected_size reach,
                  ← same,
                  length-take-le head.expected_size (drop (i * 223) bytes) reach,
                  add-zero head.expected_size,
                );
          }

      does_turn : Sound head → (b : Bool) → Does f p k (plan_turn b f head) i (after (turn_at b f i head))
      unfolding plan_turn pick
      does_turn s true = does_copy s (all_there (copied_head f head))
      does_turn s false =
          record {
            fits = unfold idle in record { room = omega arith; there = omega arith; whole = omega arith; short = omega arith; total = omega arith };
            is =
                unfold idle carried shown outcome said_of slots_after mark_of slots_of reset_slot why_kind reply_kind reply_payload reply_length zeros in
                rw (slot_here i u, view_set p w i (reset_head head) 0 [] 0 u small (omega arith) (omega arith));
          }

    does_next : (o : Option ℕ) → Inside p.size o → ((i : ℕ) → o ≡ some i → Sound (get_or p.heads i d)) → Does f p k (plan_next (found o) f (get_or p.heads (spot o) d)) (spot o) (after (continues_at f slots o))
    unfolding found spot plan_next continues_at
    does_next none u s = unfold mark_of said_of slots_after why_kind in does_ignored stray lost 0 refl refl
    does_next (some i) u s =
        rw (slot_here i u) (does_turn i u (s i refl) (is_next f (get_or p.heads i d)))

    -- ---- the clauses of the plan beside those of the step

    inside_slots : (t : Head → Bool) → Inside p.size (first_at (on_head t) slots)
    inside_slots t = rw (length-take-le p.size (slots_from p.heads p.bytes) (rw (slots_long p.heads p.bytes, w.heads) small)) at (inside_first (on_head t) slots fresh_slot)

    choice : Bool → Option ℕ
    choice true = chosen R f slots
    choice false = live R f slots

    inside_choice : (b : Bool) → Inside p.size (choice b)
    unfolding choice chosen live
    inside_choice true = inside_or p.size _ _ (inside_slots (has_key R f)) (inside_or p.size _ _ (inside_slots (is_free_of_source R f)) (inside_slots (is_free R f)))
    inside_choice false = inside_slots (has_live_key R f)

    live_sound : any (on_head (impossible_head R)) slots ≡ false → (i : ℕ) → live R f slots ≡ some i → Sound (get_or p.heads i d)
    unfolding live
    live_sound fine i e =
        let hit = first_passes (on_head (has_live_key R f)) slots fresh_slot i e in
        let u : i < p.size = subst (Inside p.size) e (inside_slots (has_live_key R f)) in
        let keyed : has_live_key R f (get_or p.heads i d) ≡ true = rw (slot_here i u) at hit.passed in
        let good : impossible_head R (get_or p.heads i d) ≡ false = rw (slot_here i u) at (none_at (on_head (impossible_head R)) slots i fresh_slot fine hit.inside) in
        sound R (get_or p.heads i d) (busy_live R f (get_or p.heads i d) keyed) good

    does_first : (b : Bool) → leb (size_of f) 6 ≡ b → Does f p k (plan_short b (found (choice true)) R.silent f (get_or p.heads (spot (choice true)) d)) (spot (choice true)) (after (first_short b R f slots))
    does_first true e = unfold pick in does_short (found (choice true)) (spot (choice true)) (leb-true (size_of f) 6 e)
    does_first false e = unfold plan_short pick choice in does_open (chosen R f slots) (inside_choice true)

    does_sized : (b : Bool) → Does f p k (plan_sized b (found (choice true)) R.silent f (get_or p.heads (spot (choice true)) d)) (spot (choice true)) (after (first_sized b R f slots))
    unfolding plan_sized pick
    does_sized true = unfold mark_of said_of slots_after why_kind in does_ignored rejected bad_frame (spot (choice true)) refl refl
    does_sized false = does_first (leb (size_of f) 6) refl

    module _ (fine : any (on_head (impossible_head R)) slots ≡ false) where
      does_index : (b : Bool) → Does f p k (plan_index b (found (choice b)) R.silent f (get_or p.heads (spot (choice b)) d)) (spot (choice b)) (after (by_index b R f slots))
      unfolding plan_index pick plan_first
      does_index true = does_sized (bad_first f)
      does_index false = unfold choice in does_next (live R f slots) (inside_choice false) (live_sound fine)

      does_sent : (b : Bool) → Does f p k (plan_sent b (found (choice (eqb (index_of f) 0))) R.silent f (get_or p.heads (spot (choice (eqb (index_of f) 0))) d)) (spot (choice (eqb (index_of f) 0))) (after (by_sent b R f slots))
      unfolding plan_sent pick
      does_sent true = unfold mark_of said_of slots_after why_kind in does_ignored rejected bad_frame (spot (choice (eqb (index_of f) 0))) refl refl
      does_sent false = does_index (eqb (index_of f) 0)

      does_listed : (b : Bool) → Does f p k (plan_listed b (found (choice (eqb (index_of f) 0))) R.silent f (get_or p.heads (spot (choice (eqb (index_of f) 0))) d)) (spot (choice (eqb (index_of f) 0))) (after (by_list b R f slots))
      unfolding plan_listed pick
      does_listed false = unfold mark_of said_of slots_after why_kind in does_ignored not_listed unlisted (spot (choice (eqb (index_of f) 0))) refl refl
      does_listed true = does_sent (is_empty f)

    does_checked : (l : List ℕ) (b : Bool) → any (on_head (impossible_head R)) slots ≡ b
        → Does f p k (plan_of b (listed_in f.pgn l) (found (choice (eqb (index_of f) 0))) R.silent f (get_or p.heads (spot (choice (eqb (index_of f) 0))) d)) (spot (choice (eqb (index_of f) 0)))
        (shown p.kind p.mode (step_if b R (slots_of p) k (record { pgns = l; heard = f })))
    unfolding plan_of step_if
    does_checked l true e = does_refused (spot (choice (eqb (index_of f) 0)))
    does_checked l false e = unfold event_of slots_of in does_listed e (listed_in f.pgn l)

    -- the walk over the heads finds what the slots' searches find
    walked : place_of f (seen R f 0 (take p.size p.heads)) ≡ place (choice (eqb (index_of f) 0))
    unfolding place_of pick choice chosen live
    walked = go (eqb (index_of f) 0)
      where
        viewed : (t : Head → Bool) → place (first_at t (take p.size p.heads)) ≡ place (first_at (on_head t) slots)
        viewed t = ap place (sym (first_view t p.size p.heads p.bytes))

        go : (b : Bool) → pick b (first_of (seen R f 0 (take p.size p.heads)).key (first_of (seen R f 0 (take p.size p.heads)).own (seen R f 0 (take p.size p.heads)).free)) (seen R f 0 (take p.size p.heads)).live ≡ place (choice b)
        go true =
            rw (seen_key R f (take p.size p.heads), seen_own R f (take p.size p.heads), seen_free R f (take p.size p.heads), viewed (has_key R f), viewed (is_free_of_source R f), viewed (is_free R f))
            (rw (first_of_lem (first_at (on_head (is_free_of_source R f)) slots) (first_at (on_head (is_free R f)) slots) p.size small (inside_slots (is_free_of_source R f)))
            (first_of_lem (first_at (on_head (has_key R f)) slots) _ p.size small (inside_slots (has_key R f))))
        go false = seen_live R f (take p.size p.heads) ∙ viewed (has_live_key R f)

  -- the whole call
  pub receives : (l : List ℕ) → R.limit ≡ pool_limit
      → Does f p k (plan_of (found_in R f p.size p.heads).bad (listed_in f.pgn l) (ltb (place_of f (found_in R f p.size p.heads)) pool_limit) R.silent f (get_or p.heads (within_limit (place_of f (found_in R f p.size p.heads))) d))
      (within_limit (place_of f (found_in R f p.size p.heads))) (receive_of R l f p k)
  unfolding found_in seen_if receive_of step impossible slots_of
  receives l limit = go (ltb pool_limit p.size) refl R.limit limit
    where
      go : (b : Bool) → ltb pool_limit p.size ≡ b → (n : ℕ) → n ≡ pool_limit
          → Does f p k (plan_of (seen_if b R f p.size p.heads).bad (listed_in f.pgn l) (ltb (place_of f (seen_if b R f p.size p.heads)) pool_limit) R.silent f (get_or p.heads (within_limit (place_of f (seen_if b R f p.size p.heads))) d))
          (within_limit (place_of f (seen_if b R f p.size p.heads))) (shown p.kind p.mode (step_if (ltb n p.size || any (on_head (impossible_head R)) slots) R (slots_of p) k (record { pgns = l; heard = f })))
      go true e n en = unfold nothing_found plan_of step_if in rw (en, e) (does_refused _)
      go false e n en =
          let small : p.size ≤ pool_limit = ltb-false pool_limit p.size e in
          let o : Option ℕ = choice small (eqb (index_of f) 0) in
          rw (
            en,
            e,
            walked small,
            placed_found o p.size small (inside_choice small (eqb (index_of f) 0)),
            placed_spot o p.size small (inside_choice small (eqb (index_of f) 0)),
            seen_bad R f (take p.size p.heads) 0,
            ← any_view (impossible_head R) p.size p.heads p.bytes,
          ) (does_checked small l (any (on_head (impossible_head R)) slots) refl)

-- as the code comes by it: each thing that it computes is a variable with what is known of it
module _ (R : Rules) (limit : R.limit ≡ pool_limit) (l : List ℕ) (f : Heard) (p : Pool) (k : Counters) (w : Whole p) (eight : length f.«data» ≡ 8) (e : Head) (s : Found) (t : Bool) (i g : ℕ) (d : Plan)
    (es : s ≡ found_in R f p.size p.heads) (et : t ≡ listed_in f.pgn l) (ei : i ≡ place_of f s) (eg : g ≡ within_limit i)
    (ed : d ≡ plan_of s.bad t (ltb i pool_limit) R.silent f (get_or p.heads g e)) where
  pub planned : Does f p k d g (receive_of R l f p k)
  planned = rw (ed, eg, ei, et, es) (receives R f p k w eight e l limit)

  -- the answer, put together from what the calls left
  pub answered : (b : List ℕ) (c : Counters) (m n : List ℕ) → b ≡ paste p.bytes (g * 223 + d.at) (drop d.from f.«data») d.count → c ≡ raised d.mark k
      → m ≡ paste (replicate 223 0) 0 (drop (g * 223) b) d.whole → n ≡ paste m 0 (drop 2 f.«data») d.short
      → record { kind = d.kind; payload = n; length = d.whole + d.short; pool = record { kind = p.kind; mode = p.mode; size = p.size; heads = set p.heads g d.head; bytes = b }; counters = c } ≡ receive_of R l f p k
  unfolding carried
  answered b c m n eb ec em en = rw (en, em, ec, eb) planned.is

-- the lengths of what the calls left
pub slot_long : (b : List ℕ) (f : Heard) (p : Pool) → Whole p → length f.«data» ≡ 8 → (g : ℕ) (d : Plan) → g < pool_limit → Fits d
    → b ≡ paste p.bytes (g * 223 + d.at) (drop d.from f.«data») d.count → length b ≡ pool_bytes
slot_long b f p w eight g d low fits e =
    ap length e
    ∙ length-paste p.bytes (g * 223 + d.at) (drop d.from f.«data») d.count (omega (arith, w.bytes, fits.room)) (simp length-drop (omega (arith, eight, fits.there)))
    ∙ w.bytes

pub payload_long : (m b : List ℕ) (g : ℕ) (d : Plan) → g < pool_limit → Fits d → length b ≡ pool_bytes → m ≡ paste (replicate 223 0) 0 (drop (g * 223) b) d.whole → length m ≡ 223
payload_long m b g d low fits long e =
    ap length e ∙ length-paste (replicate 223 0) 0 (drop (g * 223) b) d.whole (omega (arith, fits.whole)) (simp length-drop (omega (arith, long, fits.whole)))
