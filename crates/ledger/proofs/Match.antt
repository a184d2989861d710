-- The walk: one call keeps slots and places in step. It says what the ledger's deed calls for and marks its counter.
-- Assumes nothing.
use mathlib.Core.Bool.{Bool, true, false, false≢true}
use mathlib.Core.List.{List}
use mathlib.Core.Option.{Option, none, some}
use mathlib.Core.Path.{◌≡◌, refl, subst, ◌∙◌}
use Prim.Native.Nat.{ℕ, ◌+◌, ◌≤◌, ◌<◌}
use lib.ListN.{length, get_or, take, set, length-set}
use lib.Dec.{eqb, ltb, leb}
use native.Mathlib.Omega.{arith}
use borrow.Author.Tests.{leb-true, leb-false, ltb-false}
use Rattle.base.specs.Answer.{gives}
use Rattle.base.specs.Pick.{pick}
use Rattle.base.specs.Lists.{first_at, any}
use Rattle.base.proofs.Bools.{or_right}
use Rattle.base.proofs.Cases.{pick_both}
use Rattle.base.proofs.First.{first_passes}
use Rattle.base.proofs.Paired.{All2, all2_first, all2_any, all2_at, all2_set}
use Rattle.book.proofs.Moves.{Within}
use Rattle.fast_packet.specs.FastPacket.{max_payload}
use Rattle.std.specs.Prelude.{Some, None}
use Rattle.session.specs.declared.Counter.TheVariants.{Expired, Exhausted, Rejected, Lost, Unknown}
use Rattle.session.specs.declared.Kind.TheVariants.{FragmentConsumed, MessageComplete}
use Rattle.session.specs.Rules.{Rules}
use Rattle.session.specs.Frames.{index_of, size_of, bad_size, first_bytes, is_empty, bad_first}
use Rattle.session.proofs.Cuts.{first_good, first_sent}
use Rattle.session.specs.Heads.{impossible_head, has_key, is_free, is_free_of_source, has_live_key, is_expired}
use Rattle.session.specs.Counting.{Mark, expired_mark}
use Rattle.assembler.specs.Call.{Call, CallOk, part_fits, listed}
use Rattle.assembler.specs.Slots.{Slot, slot_at, fresh_slot, on_head, chosen, live, copied_slot}
use Rattle.assembler.specs.Step as act
use Rattle.assembler.specs.Step.{Event, message, padded, said_of, slots_after, opens_at, continues_at, event_of}
use Rattle.assembler.specs.View.{why_kind, reply_kind, reply_payload, reply_length}
use Rattle.ledger.specs.Ledger.{Message, Place, idle, holds, held_in, new_message, grown, key_held, late, free, free_of_source, live_held, taken_by, full, awaited, left}
use Rattle.ledger.specs.Ledger.{Deed, Unlisted, BadFrame, NoSlot, Stray, AtOnce, Opening, Restarting, Reclaiming, Copied, Delivered, Broken, deed_number, is_one_of, opening_at}
use Rattle.ledger.specs.Ledger.{Told, nothing_moved, opens_in, continues_in, given, tell_one, frames_bytes, own_bytes, announced, briefly, delivery, kind_due, saying, unsent_in}
use Rattle.ledger.specs.Assemblers.{reply_says}
use Rattle.ledger.proofs.Moves.{within_taken}
use Rattle.ledger.proofs.Shows.{Shows, HeldSlot, room_of, held_source, key_same, late_same, free_same, free_of_source_same, live_same, possible, reset_shows, opened_shows, copied_room, awaited_same, full_same, copied_shows, cut_same, copied_source, short_cut, short_full, short_due, whole_due}

-- which counter a deed marks
unfoldable pub mark_of : Deed → Mark
mark_of Unlisted = Some Unknown
mark_of BadFrame = Some Rejected
mark_of NoSlot = Some Exhausted
mark_of Stray = Some Lost
mark_of AtOnce = None
mark_of Opening = None
mark_of Restarting = None
mark_of Reclaiming = Some Expired
mark_of Copied = None
mark_of Delivered = None
mark_of Broken = Some Lost

-- a message said
says_message : (bytes due : List ℕ) (n : ℕ) → bytes ≡ due → length bytes ≡ n → reply_says (gives (message bytes)) ≡ record { kind = MessageComplete; payload = padded due; length = n }
unfolding reply_says reply_kind reply_payload reply_length message
says_message bytes due n e l = rw (← e, l)

module _ (R : Rules) where
  -- ---- searches in the slots are those in the places, and a pool that shows places is possible

  pub chosen_same : (c : Call) {ps : List Place} {ss : List Slot} → All2 (Shows R) ps ss → taken_by R c ps ≡ chosen R c.heard ss
  unfolding taken_by chosen
  chosen_same c h =
      cc (
        all2_first (key_held R c) (on_head (has_key R c.heard)) (key_same R c) h,
        all2_first (free_of_source R c) (on_head (is_free_of_source R c.heard)) (free_of_source_same R c) h,
        all2_first (free R c) (on_head (is_free R c.heard)) (free_same R c) h,
      )

  live_found : (c : Call) {ps : List Place} {ss : List Slot} → All2 (Shows R) ps ss → first_at (live_held R c) ps ≡ live R c.heard ss
  unfolding live
  live_found c h = all2_first (live_held R c) (on_head (has_live_key R c.heard)) (live_same R c) h

  pub all_possible : {ps : List Place} {ss : List Slot} → All2 (Shows R) ps ss → any (on_head (impossible_head R)) ss ≡ false
  all_possible h = all2_any (on_head (impossible_head R)) (possible R) h

  -- ---- one call: what the ledger tells of it, and the event of the steps

  pub record Match (c : Call) (ss : List Slot) (t : Told) (e : Event) : Type 0 where
    pub kept : length (slots_after c.heard ss e) ≡ length ss
    pub shows : All2 (Shows R) t.places (slots_after c.heard ss e)
    pub says : reply_says (gives (said_of c.heard ss e)) ≡ saying t.deed t.message
    pub marks : act.mark_of e ≡ mark_of t.deed
    -- every byte of a delivered message was sent
    pub sent : unsent_in t.deed t.message ≡ false

  late_marks : (b : Bool) → expired_mark b ≡ mark_of (pick b Reclaiming Restarting)
  unfolding expired_mark mark_of pick
  late_marks true = refl
  late_marks false = refl

  opening_marks : (c : Call) (p : Place) (s : Slot) → Shows R p s → expired_mark (is_expired R c.heard s.head) ≡ mark_of (opening_at (late R c) p)
  unfolding opening_at is_expired
  opening_marks c (idle kept) s h = rw h.busy (unfold expired_mark mark_of in refl)
  opening_marks c (holds m) s h = cc (h.busy, late_same R c m s h, late_marks (late R c m))

  late_says : (b : Bool) (m : Option Message) → briefly FragmentConsumed ≡ saying (pick b Reclaiming Restarting) m
  unfolding kind_due saying is_one_of any deed_number pick
  late_says true m = refl
  late_says false m = refl

  opening_says : (c : Call) (p : Place) → briefly FragmentConsumed ≡ saying (opening_at (late R c) p) (held_in p)
  unfolding opening_at held_in
  opening_says c (idle kept) = unfold kind_due saying is_one_of any deed_number pick in refl
  opening_says c (holds m) = late_says (late R c m) (some m)

  late_sent : (b : Bool) (m : Option Message) → unsent_in (pick b Reclaiming Restarting) m ≡ false
  unfolding unsent_in is_one_of any deed_number pick
  late_sent b none = refl
  late_sent true (some m) = refl
  late_sent false (some m) = refl

  opening_sent : (c : Call) (p : Place) → unsent_in (opening_at (late R c) p) (held_in p) ≡ false
  unfolding opening_at held_in
  opening_sent c (idle kept) = unfold unsent_in in refl
  opening_sent c (holds m) = late_sent (late R c m) (some m)

  good_size : (c : Call) → bad_first c.heard ≡ false → size_of c.heard ≤ max_payload
  unfolding bad_size
  good_size c e = ltb-false max_payload (size_of c.heard) (or_right (eqb (size_of c.heard) 0) (ltb max_payload (size_of c.heard)) (first_good c.heard e))

  module _ (n : ℕ) (c : Call) (ok : CallOk c) (fits : part_fits R c ≡ true) {ps : List Place} {ss : List Slot} (h : All2 (Shows R) ps ss) where
    match_open : 7 ≤ size_of c.heard → size_of c.heard ≤ max_payload → 8 ≤ c.heard.length → (o : Option ℕ) → Within (length ps) o → Match c ss (given o (nothing_moved NoSlot ps) (opens_in R n ps c)) (opens_at R c.heard ss o)
    unfolding given opens_in opens_at nothing_moved slots_after said_of act.mark_of reply_says why_kind reply_kind reply_payload reply_length briefly
    match_open low high all none u = record { kept = refl; shows = h; says = unfold kind_due saying is_one_of any deed_number pick in refl; marks = unfold mark_of in refl; sent = unfold unsent_in in refl }
    match_open low high all (some i) u =
        let q : Shows R (get_or ps i (idle 0)) (slot_at ss i) = all2_at h i u (idle 0) fresh_slot in
        record {
          kept = simp length-set;
          shows = all2_set h i (opened_shows R n c (slot_at ss i) ok fits low high all (room_of R (get_or ps i (idle 0)) (slot_at ss i) q));
          says = opening_says c (get_or ps i (idle 0));
          marks = opening_marks c (get_or ps i (idle 0)) (slot_at ss i) q;
          sent = opening_sent c (get_or ps i (idle 0));
        }

    match_chosen : 7 ≤ size_of c.heard → size_of c.heard ≤ max_payload → 8 ≤ c.heard.length → Match c ss (given (taken_by R c ps) (nothing_moved NoSlot ps) (opens_in R n ps c)) (opens_at R c.heard ss (chosen R c.heard ss))
    match_chosen low high all =
        subst (λ (o : Option ℕ). Match c ss (given (taken_by R c ps) (nothing_moved NoSlot ps) (opens_in R n ps c)) (opens_at R c.heard ss o)) (chosen_same c h)
        (match_open low high all (taken_by R c ps) (within_taken R c ps))

    match_short : size_of c.heard ≤ 6 → 2 + size_of c.heard ≤ c.heard.length → Match c ss (record { deed = AtOnce; message = some (new_message n c); places = ps }) act.short_message
    unfolding slots_after said_of act.mark_of mark_of saying is_one_of any deed_number pick delivery announced new_message own_bytes frames_bytes
    match_short small all =
        record {
          kept = refl;
          shows = h;
          says = says_message (take (size_of c.heard) (first_bytes c.heard)) _ _ (short_cut R c small all) (short_due R c ok small);
          marks = refl;
          sent = unfold unsent_in in rw (short_full R n c ok small all);
        }

    -- the calls that move nothing
    match_unlisted : Match c ss (nothing_moved Unlisted ps) act.not_listed
    unfolding nothing_moved slots_after said_of act.mark_of mark_of reply_says why_kind reply_kind reply_payload reply_length kind_due saying is_one_of any deed_number pick briefly
    match_unlisted = record { kept = refl; shows = h; says = refl; marks = refl; sent = unfold unsent_in in refl }

    match_bad : Match c ss (nothing_moved BadFrame ps) act.rejected
    unfolding nothing_moved slots_after said_of act.mark_of mark_of reply_says why_kind reply_kind reply_payload reply_length kind_due saying is_one_of any deed_number pick briefly
    match_bad = record { kept = refl; shows = h; says = refl; marks = refl; sent = unfold unsent_in in refl }

    match_stray : Match c ss (nothing_moved Stray ps) act.stray
    unfolding nothing_moved slots_after said_of act.mark_of mark_of reply_says why_kind reply_kind reply_payload reply_length kind_due saying is_one_of any deed_number pick briefly
    match_stray = record { kept = refl; shows = h; says = refl; marks = refl; sent = unfold unsent_in in refl }

    module _ (i : ℕ) (m : Message) (q : HeldSlot R m (slot_at ss i)) where
      match_full : awaited c m ≡ true → full (grown m c) ≡ true → Match c ss (record { deed = Delivered; message = some (grown m c); places = set ps i (left m) }) (act.completed i)
      unfolding slots_after said_of act.mark_of mark_of saying is_one_of any deed_number pick delivery grown
      match_full turn e =
          record {
            kept = simp length-set;
            shows = all2_set h i (reset_shows R m (copied_slot c.heard (slot_at ss i)) (copied_source R c m (slot_at ss i) q) (copied_room R c m (slot_at ss i) ok q));
            says = says_message _ _ _ (cut_same R c m (slot_at ss i) ok q turn e ∙ (unfold grown own_bytes frames_bytes announced in refl)) (whole_due R c m (slot_at ss i) ok q);
            marks = refl;
            sent = unfold unsent_in in rw e;
          }

      match_copied : awaited c m ≡ true → full (grown m c) ≡ false → Match c ss (record { deed = Copied; message = some (grown m c); places = set ps i (holds (grown m c)) }) (act.copied i)
      unfolding slots_after said_of act.mark_of mark_of reply_says why_kind reply_kind reply_payload reply_length kind_due saying is_one_of any deed_number pick briefly
      match_copied turn e = record { kept = simp length-set; shows = all2_set h i (copied_shows R c m (slot_at ss i) ok q turn e); says = refl; marks = refl; sent = unfold unsent_in in refl }

      match_broken : Match c ss (record { deed = Broken; message = some m; places = set ps i (left m) }) (act.broken i)
      unfolding slots_after said_of act.mark_of mark_of reply_says why_kind reply_kind reply_payload reply_length kind_due saying is_one_of any deed_number pick briefly
      match_broken = record { kept = simp length-set; shows = all2_set h i (reset_shows R m (slot_at ss i) (held_source R m (slot_at ss i) q) q.room); says = refl; marks = refl; sent = unfold unsent_in in refl }

      match_own : Match c ss (continues_in ps c i m) (continues_at c.heard ss (some i))
      unfolding continues_in continues_at
      match_own =
          rw (← awaited_same R c m (slot_at ss i) ok q)
          (pick_both (Match c ss) (awaited c m)
          (λ turn. rw (full_same R c m (slot_at ss i) ok q turn (full (grown m c)) refl) (pick_both (Match c ss) (full (grown m c)) (match_full turn) (match_copied turn)))
          (λ out. match_broken))

    match_held : (i : ℕ) (p : Place) → Shows R p (slot_at ss i) → live_held R c p ≡ true → Match c ss (given (held_in p) (nothing_moved Stray ps) (continues_in ps c i)) (continues_at c.heard ss (some i))
    unfolding given held_in live_held
    match_held i (idle kept) q live = absurd (false≢true live)
    match_held i (holds m) q live = match_own i m q

    match_continue : (o : Option ℕ) → first_at (live_held R c) ps ≡ o
        → Match c ss (given o (nothing_moved Stray ps) (λ i. given (held_in (get_or ps i (idle 0))) (nothing_moved Stray ps) (continues_in ps c i))) (continues_at c.heard ss o)
    unfolding given
    match_continue none e = unfold continues_at in match_stray
    match_continue (some i) e =
        let found = first_passes (live_held R c) ps (idle 0) i e in match_held i (get_or ps i (idle 0)) (all2_at h i found.inside (idle 0) fresh_slot) found.passed

    match_live : Match c ss (given (first_at (live_held R c) ps) (nothing_moved Stray ps) (λ i. given (held_in (get_or ps i (idle 0))) (nothing_moved Stray ps) (continues_in ps c i))) (continues_at c.heard ss (live R c.heard ss))
    match_live =
        subst (λ (o : Option ℕ). Match c ss (given (first_at (live_held R c) ps) (nothing_moved Stray ps) (λ i. given (held_in (get_or ps i (idle 0))) (nothing_moved Stray ps) (continues_in ps c i))) (continues_at c.heard ss o))
        (live_found c h) (match_continue (first_at (live_held R c) ps) refl)

    short_sent : bad_first c.heard ≡ false → size_of c.heard ≤ 6 → 2 + size_of c.heard ≤ c.heard.length
    short_sent good small = omega (arith, first_sent c.heard good, small)

    long_sent : bad_first c.heard ≡ false → 6 < size_of c.heard → 8 ≤ c.heard.length
    long_sent good long = omega (arith, first_sent c.heard good, long)

    pub match : Match c ss (tell_one R n ps c) (event_of R ss c)
    unfolding tell_one event_of
    match =
        pick_both (Match c ss) (listed c)
        (λ yes. pick_both (Match c ss) (is_empty c.heard) (λ none. match_bad)
        (λ some. pick_both (Match c ss) (eqb (index_of c.heard) 0)
        (λ first. pick_both (Match c ss) (bad_first c.heard) (λ bad. match_bad)
        (λ good. pick_both (Match c ss) (leb (size_of c.heard) 6) (λ short. match_short (leb-true (size_of c.heard) 6 short) (short_sent good (leb-true (size_of c.heard) 6 short)))
        (λ long. match_chosen (leb-false (size_of c.heard) 6 long) (good_size c good) (long_sent good (leb-false (size_of c.heard) 6 long)))))
        (λ next. match_live)))
        (λ no. match_unlisted)
