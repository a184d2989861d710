-- A place of the ledger and a slot of the pool: when the slot shows the place, that the tests of both agree, that such a slot is possible, and that the
-- slots which a call leaves show the places which the ledger leaves. Nothing is asked of the test for silence or of the test for the key.
-- Assumes nothing.
use mathlib.Core.Bool.{Bool, true, false, not}
use mathlib.Core.List.{◌++◌}
use mathlib.Core.Path.{◌≡◌, refl, sym, ap, ◌∙◌}
use Prim.Native.Nat.{ℕ, suc, ◌+◌, ◌*◌, ◌-◌, ◌≤◌, ◌<◌, min}
use native.Mathlib.Omega.{arith}
use lib.ListN.{length, take, drop, length-take, length-drop, length-append}
use lib.Seq.{take-paste, length-paste, take-append-add, take_all, length-take-le}
use borrow.Author.Tests.{eqb-true, leb-true, leb-false, le-leb, lt-leb, le-ltb, lt-ltb, eq-eqb}
use Rattle.fast_packet.specs.FastPacket.{max_payload}
use Rattle.session.specs.Rules.{Key, Rules}
use Rattle.session.specs.Frames.{sequence_of, index_of, size_of, first_bytes, next_bytes, key_of, sent_bytes}
use Rattle.base.proofs.Bools.{and_left}
use Rattle.session.proofs.Cuts.{sent_part, next_sent}
use Rattle.session.specs.Heads.{head_key, impossible_head, has_key, is_silent, is_free, is_free_of_source, has_live_key, in_turn, cut_next, is_next, opened_head, reset_head, wanted, copied_head, all_there}
use Rattle.assembler.specs.Call.{Call, CallOk, part_fits}
use Rattle.assembler.specs.Slots.{Slot, opened_slot, reset_slot, copied_slot}
use Rattle.ledger.specs.Ledger.{Message, new_message, grown, latest_of, frames_bytes, own_bytes, announced, Place, idle, holds, key_held, late, free, source_at, free_of_source, live_held, left, full, its_turn, lacks, awaited}

-- where all eight bytes were sent, they are the frame's
all_sent : (c : Call) → CallOk c → 8 ≤ c.heard.length → sent_bytes c.heard ≡ c.heard.«data»
unfolding sent_bytes
all_sent c ok h = take_all c.heard.length c.heard.«data» (omega (arith, ok.eight, h))

module _ (R : Rules) where
  -- ---- a place and its slot

  pub record IdleSlot (from : ℕ) (s : Slot) : Type 0 where
    pub busy : s.head.in_progress ≡ false
    pub source : s.head.source_address ≡ from
    pub room : length s.buffer ≡ max_payload

  pub record HeldSlot (m : Message) (s : Slot) : Type 0 where
    pub busy : s.head.in_progress ≡ true
    pub key : head_key s.head ≡ key_of m.first.heard
    pub sequence : s.head.sequence_id ≤ 7
    pub expected : s.head.expected_size ≡ announced m
    pub index : s.head.last_frame_index ≡ length m.later
    pub current : s.head.current_size ≡ 6 + 7 * length m.later
    pub time : s.head.last_seen_ms ≡ (latest_of m.first m.later).heard.now_ms
    pub room : length s.buffer ≡ max_payload
    -- the buffer starts with the message's own bytes
    pub bytes : take s.head.current_size s.buffer ≡ own_bytes m
    pub low : 7 ≤ announced m
    pub high : announced m ≤ max_payload
    pub missing : 6 + 7 * length m.later < announced m
    -- and its part is one that its PGN allows
    pub fits : R.allowed s.head.pgn s.head.part ≡ true

  abbrev pub Shows : Place → Slot → Type 0
  Shows (idle from) s = IdleSlot from s
  Shows (holds m) s = HeldSlot m s

  pub room_of : (p : Place) (s : Slot) → Shows p s → length s.buffer ≡ max_payload
  room_of (idle from) s h = h.room
  room_of (holds m) s h = h.room

  -- ---- the tests agree

  pub held_source : (m : Message) (s : Slot) → HeldSlot m s → s.head.source_address ≡ m.first.heard.source_address
  unfolding head_key key_of
  held_source m s h = ap (λ (k : Key). k.source) h.key

  pub key_same : (c : Call) (p : Place) (s : Slot) → Shows p s → key_held R c p ≡ has_key R c.heard s.head
  unfolding key_held has_key
  key_same c (idle from) s h = rw h.busy
  key_same c (holds m) s h = rw h.key (cc h.busy)

  pub late_same : (c : Call) (m : Message) (s : Slot) → HeldSlot m s → late R c m ≡ is_silent R c.heard s.head
  unfolding late is_silent
  late_same c m s h = rw h.time

  pub free_same : (c : Call) (p : Place) (s : Slot) → Shows p s → free R c p ≡ is_free R c.heard s.head
  unfolding free is_free
  free_same c (idle from) s h = rw h.busy
  free_same c (holds m) s h = cc (h.busy, late_same c m s h)

  source_same : (p : Place) (s : Slot) → Shows p s → source_at p ≡ s.head.source_address
  unfolding source_at
  source_same (idle from) s h = sym h.source
  source_same (holds m) s h = sym (held_source m s h)

  pub free_of_source_same : (c : Call) (p : Place) (s : Slot) → Shows p s → free_of_source R c p ≡ is_free_of_source R c.heard s.head
  unfolding free_of_source is_free_of_source
  free_of_source_same c p s h = cc (free_same c p s h, source_same p s h)

  pub live_same : (c : Call) (p : Place) (s : Slot) → Shows p s → live_held R c p ≡ has_live_key R c.heard s.head
  unfolding live_held has_live_key has_key
  live_same c (idle from) s h = rw h.busy
  live_same c (holds m) s h = cc (h.busy, h.key, late_same c m s h)

  -- ---- a slot that shows a place is possible

  pub possible : (p : Place) (s : Slot) → Shows p s → impossible_head R s.head ≡ false
  unfolding impossible_head
  possible (idle from) s h = rw h.busy
  possible (holds m) s h =
      let q : s.head.current_size ≡ 6 + 7 * s.head.last_frame_index = omega (arith, h.current, h.index) in
      rw (
        h.busy,
        h.fits,
        le-ltb 7 s.head.sequence_id h.sequence,
        le-ltb s.head.expected_size 7 (omega (arith, h.expected, h.low)),
        le-ltb max_payload s.head.expected_size (omega (arith, h.expected, h.high)),
        eq-eqb s.head.current_size (6 + 7 * s.head.last_frame_index) q,
        lt-ltb s.head.current_size s.head.expected_size (omega (arith, h.current, h.expected, h.missing)),
      )

  -- ---- the slots that a call leaves

  pub reset_shows : (m : Message) (s : Slot) → s.head.source_address ≡ m.first.heard.source_address → length s.buffer ≡ max_payload → Shows (left m) (reset_slot s)
  unfolding left reset_slot reset_head
  reset_shows m s e r = record { busy = refl; source = e; room = r }

  first_length : (c : Call) → CallOk c → length (first_bytes c.heard) ≡ 6
  unfolding first_bytes
  first_length c ok = simp length-drop (rw ok.eight)

  next_length : (c : Call) → CallOk c → length (next_bytes c.heard) ≡ 7
  unfolding next_bytes
  next_length c ok = simp length-drop (rw ok.eight)

  pub opened_shows : (n : ℕ) (c : Call) (s : Slot) → CallOk c → part_fits R c ≡ true → 7 ≤ size_of c.heard → size_of c.heard ≤ max_payload → 8 ≤ c.heard.length → length s.buffer ≡ max_payload
      → Shows (holds (new_message n c)) (opened_slot c.heard s)
  unfolding new_message opened_slot opened_head head_key key_of announced latest_of own_bytes frames_bytes sequence_of
  opened_shows n c s ok fits low high all r =
      record {
        busy = refl;
        key = refl;
        sequence = omega (arith, ok.byte);
        expected = refl;
        index = refl;
        current = refl;
        time = refl;
        room = length-paste s.buffer 0 (first_bytes c.heard) 6 (omega arith) (omega (arith, first_length c ok)) ∙ r;
        bytes = take-paste s.buffer 0 (first_bytes c.heard) 6 (omega arith) (omega (arith, first_length c ok)) ∙ (unfold first_bytes in rw (all_sent c ok all));
        low = low;
        high = high;
        missing = omega arith;
        fits = fits;
      }

  -- a continuation that the message waits for
  module _ (c : Call) (m : Message) (s : Slot) (ok : CallOk c) (h : HeldSlot m s) where
    wants : wanted s.head ≡ min 7 (announced m - (6 + 7 * length m.later))
    unfolding wanted
    wants = rw (h.expected, h.current)

    pub copied_room : length (copied_slot c.heard s).buffer ≡ max_payload
    unfolding copied_slot copied_head
    copied_room = length-paste s.buffer s.head.current_size (next_bytes c.heard) (wanted s.head)
        (omega (arith, wants, h.current, h.missing, h.high, h.room)) (omega (arith, wants, next_length c ok)) ∙ h.room

    own_length : length (own_bytes m) ≡ 6 + 7 * length m.later
    own_length = ap length (sym h.bytes) ∙ length-take-le s.head.current_size s.buffer (omega (arith, h.current, h.missing, h.high, h.room)) ∙ h.current

    lacks_same : lacks c m ≡ cut_next c.heard s.head
    unfolding lacks cut_next
    lacks_same = rw (own_length, wants)

    pub awaited_same : awaited c m ≡ is_next c.heard s.head
    unfolding awaited is_next its_turn in_turn
    awaited_same = rw (lacks_same, h.index)

    module _ (turn : awaited c m ≡ true) where
      -- every byte that it needs was sent
      sent : 1 + wanted s.head ≤ c.heard.length
      sent = next_sent c.heard s.head (sym awaited_same ∙ turn)

      sent_long : length (drop 1 (sent_bytes c.heard)) ≡ min c.heard.length 8 - 1
      unfolding sent_bytes
      sent_long = simp (length-drop, length-take) (rw ok.eight)

      copied_bytes : take (copied_slot c.heard s).head.current_size (copied_slot c.heard s).buffer ≡ own_bytes m ++ take (wanted s.head) (drop 1 (sent_bytes c.heard))
      unfolding copied_slot copied_head next_bytes sent_bytes
      copied_bytes = take-paste s.buffer s.head.current_size (drop 1 c.heard.«data») (wanted s.head)
          (omega (arith, h.current, h.missing, h.high, h.room)) (unfold next_bytes in omega (arith, wants, next_length c ok))
          ∙ rw (h.bytes, sent_part 1 (wanted s.head) c.heard.length c.heard.«data» sent)

      grown_bytes : own_bytes (grown m c) ≡ own_bytes m ++ drop 1 (sent_bytes c.heard)
      unfolding grown own_bytes frames_bytes
      grown_bytes = refl

      grown_long : length (own_bytes (grown m c)) ≡ 6 + 7 * length m.later + (min c.heard.length 8 - 1)
      grown_long = ap length grown_bytes ∙ length-append (own_bytes m) (drop 1 (sent_bytes c.heard)) ∙ omega (arith, own_length, sent_long)

      reaches : full (grown m c) ≡ true → announced m ≤ length (own_bytes (grown m c))
      unfolding full grown announced
      reaches e = leb-true (announced (grown m c)) (length (own_bytes (grown m c))) e

      falls_short : full (grown m c) ≡ false → length (own_bytes (grown m c)) < announced m
      unfolding full grown announced
      falls_short e = leb-false (announced (grown m c)) (length (own_bytes (grown m c))) e

      -- all is there exactly when the own frames' bytes reach the announced size
      pub full_same : (b : Bool) → full (grown m c) ≡ b → all_there (copied_head c.heard s.head) ≡ b
      unfolding copied_head all_there
      full_same true e = le-leb s.head.expected_size (s.head.current_size + wanted s.head) (omega (arith, reaches e, grown_long, wants, h.expected, h.current))
      full_same false e = lt-leb s.head.expected_size (s.head.current_size + wanted s.head) (omega (arith, falls_short e, grown_long, wants, sent, h.expected, h.current))

      -- where more is missing all seven bytes were needed, and sent
      seven : full (grown m c) ≡ false → wanted s.head ≡ 7
      seven e = omega (arith, falls_short e, grown_long, wants, sent)

      seven_sent : full (grown m c) ≡ false → take (wanted s.head) (drop 1 (sent_bytes c.heard)) ≡ drop 1 (sent_bytes c.heard)
      seven_sent e = take_all (wanted s.head) (drop 1 (sent_bytes c.heard)) (omega (arith, seven e, sent_long))

      more_missing : full (grown m c) ≡ false → 6 + 7 * suc (length m.later) < announced m
      more_missing e = omega (arith, falls_short e, grown_long, sent, seven e)

      in_turn_lem : index_of c.heard ≡ length m.later + 1
      unfolding awaited its_turn
      in_turn_lem = eqb-true (index_of c.heard) (length m.later + 1) (and_left (its_turn c m) (not (lacks c m)) turn)

      pub copied_shows : full (grown m c) ≡ false → Shows (holds (grown m c)) (copied_slot c.heard s)
      unfolding grown copied_slot copied_head announced latest_of own_bytes frames_bytes head_key
      copied_shows e =
          record {
            busy = h.busy;
            key = h.key;
            sequence = h.sequence;
            expected = h.expected;
            index = omega (arith, in_turn_lem);
            current = omega (arith, seven e, h.current);
            time = refl;
            room = copied_room;
            bytes = copied_bytes ∙ rw (seven_sent e);
            low = h.low;
            high = h.high;
            missing = more_missing e;
            fits = h.fits;
          }

      -- what is delivered is the own frames' bytes, cut at the announced size
      pub cut_same : full (grown m c) ≡ true → take s.head.expected_size (copied_slot c.heard s).buffer ≡ take (announced m) (own_bytes m ++ drop 1 (sent_bytes c.heard))
      unfolding copied_slot copied_head
      cut_same e =
          let reach : s.head.current_size + wanted s.head ≡ announced m = omega (arith, reaches e, grown_long, wants, h.current, h.missing) in
          let all : length (own_bytes m) + wanted s.head ≡ announced m = omega (arith, reach, own_length, h.current) in
          ap (λ (k : ℕ). take k (copied_slot c.heard s).buffer) (h.expected ∙ sym reach) ∙ copied_bytes
          ∙ sym (take-append-add (own_bytes m) (drop 1 (sent_bytes c.heard)) (wanted s.head)) ∙ ap (λ (k : ℕ). take k (own_bytes m ++ drop 1 (sent_bytes c.heard))) all

  -- a slot reset after a copy still has the message's source
  pub copied_source : (c : Call) (m : Message) (s : Slot) → HeldSlot m s → (copied_slot c.heard s).head.source_address ≡ (grown m c).first.heard.source_address
  unfolding copied_slot copied_head grown
  copied_source c m s q = held_source m s q

  -- ---- what is said

  -- a message of up to six bytes, of which every byte was sent
  pub short_cut : (c : Call) → size_of c.heard ≤ 6 → 2 + size_of c.heard ≤ c.heard.length
      → take (size_of c.heard) (first_bytes c.heard) ≡ take (size_of c.heard) (take 6 (drop 2 (sent_bytes c.heard)))
  unfolding first_bytes sent_bytes
  short_cut c small h = sym (sent_part 0 (size_of c.heard) 6 _ (omega (arith, small)) ∙ sent_part 2 (size_of c.heard) c.heard.length c.heard.«data» h)

  pub short_full : (n : ℕ) (c : Call) → CallOk c → size_of c.heard ≤ 6 → 2 + size_of c.heard ≤ c.heard.length → full (new_message n c) ≡ true
  unfolding full new_message announced own_bytes frames_bytes sent_bytes
  short_full n c ok small h = le-leb (size_of c.heard) _ (simp (length-take, length-drop) (omega (arith, ok.eight)))

  -- the length of a message is the announced size: of one delivered at once ...
  pub short_due : (c : Call) → CallOk c → size_of c.heard ≤ 6 → length (take (size_of c.heard) (first_bytes c.heard)) ≡ size_of c.heard
  short_due c ok h = length-take-le (size_of c.heard) (first_bytes c.heard) (omega (arith, first_length c ok))

  -- ... and of one delivered from its slot
  pub whole_due : (c : Call) (m : Message) (s : Slot) → CallOk c → HeldSlot m s → length (take s.head.expected_size (copied_slot c.heard s).buffer) ≡ announced (grown m c)
  unfolding announced grown
  whole_due c m s ok h =
      length-take-le s.head.expected_size (copied_slot c.heard s).buffer (omega (arith, copied_room c m s ok h, h.expected, h.high)) ∙ h.expected
