-- What strict reassembly takes, all of its tests together: the splitter's frames, none of the row too wide, and room for what they say.
--     gives_back       every such row
--     accepts          and no other
--     split_accepted   so what the splitter gives is read back as that one message
-- Assumes nothing.
use Prim.Native.Nat.{ℕ, ◌≤◌, ◌<◌, ◌/◌}
use mathlib.Core.Bool.{false}
use mathlib.Core.List.{List, [], ◌∷◌}
use mathlib.Core.Option.{Option, none, some}
use mathlib.Core.Path.{◌≡◌, refl, sym, ap, subst, ◌∙◌}
use native.Mathlib.Omega.{arith}
use borrow.Author.Tests.{ltb-false, leb-false, eqb-false}
use lib.Dec.{eqb, ltb, leb}
use lib.ListN.{length}
use Rattle.base.specs.Answer.{Answer, gives, refuses}
use Rattle.base.specs.Pick.{pick}
use Rattle.base.proofs.Cases.{when_ge}
use Rattle.base.proofs.Answers.{never, unmet}
use Rattle.splitter.specs.Frames.{is_wide}
use Rattle.splitter.specs.Bytes.{count_of}
use Rattle.splitter.specs.Split.{split_frames, split_of}
use Rattle.splitter.specs.declared.Frame.{Frame}
use Rattle.oracle.specs.Ids.{bench_source, bench_pgn}
use Rattle.oracle.specs.Strict.{BenchMessage, messages_of, first_wide, wide_first, payloads_of, room_for, delivered_to}
use Rattle.round_trip.specs.Sent.{own_frames, under, split_all, AreBytes, AreSplit}
use Rattle.round_trip.specs.Accepts.{Accepts}
use Rattle.round_trip.proofs.Accepted.{accepted}
use Rattle.round_trip.proofs.RoundTrip.{returned, delivered}
use Rattle.round_trip.proofs.Wide.{is_none, reassembly_still}

-- ---- what each test leaves of an answer that gives
none_found : {A : Type 0} (x : Option ℕ) (rest : Answer A) {a : A} → wide_first x rest ≡ gives a → (x ≡ none) × (rest ≡ gives a)
unfolding wide_first
none_found none rest e = (refl, e)
none_found (some n) rest e = never refl e

module _ (numbers space : ℕ) (ms : List BenchMessage) where
  abbrev HasRoom : Answer (List BenchMessage) → Type 0
  HasRoom a = (a ≡ gives ms) × (length ms ≤ numbers / 3) × (length (payloads_of ms) ≤ space)

  has_room : (a : Answer (List BenchMessage)) → room_for numbers space a ≡ gives ms → HasRoom a
  unfolding room_for
  has_room (refuses k vs) e = never refl e
  has_room (gives ks) e =
      let l : (ltb (numbers / 3) (length ks) ≡ false) × (pick (ltb space (length (payloads_of ks))) (refuses 27 []) (gives ks) ≡ gives ms) = unmet (ltb (numbers / 3) (length ks)) 27 _ e in
      let s : (ltb space (length (payloads_of ks)) ≡ false) × (gives ks ≡ gives ms) = unmet (ltb space (length (payloads_of ks))) 27 _ l.1 in
      let same : ks ≡ ms = let z : gives ks ≡ gives ms = s.1 in cc in
      (s.1, subst (λ (x : List BenchMessage). length x ≤ numbers / 3) same (ltb-false (numbers / 3) (length ks) l.0), subst (λ (x : List BenchMessage). length (payloads_of x) ≤ space) same (ltb-false space (length (payloads_of ks)) s.0))

-- ---- strict reassembly
module _ (fs : List Frame) (source pgn : ℕ) (list arena : List ℕ) (ms : List BenchMessage) where
  pub gives_back : Accepts fs source pgn list arena ms → delivered_to list arena fs source pgn ≡ gives ms
  unfolding room_for
  gives_back a =
      reassembly_still fs list arena source pgn a.narrow
      ∙ ap (room_for (length list) (length arena)) (returned fs source pgn ms a.messages 0 (a.frames 0))
      ∙ sym (when_ge _ _ {a = length list / 3} {b = length ms} a.listed (when_ge _ _ {a = length arena} {b = length (payloads_of ms)} a.stored refl))

  pub accepts : AreBytes fs → delivered_to list arena fs source pgn ≡ gives ms → Accepts fs source pgn list arena ms
  unfolding delivered_to
  accepts bytes e =
      let w : (first_wide 0 fs ≡ none) × (room_for (length list) (length arena) (messages_of fs source pgn) ≡ gives ms) = none_found (first_wide 0 fs) _ e in
      let r : HasRoom (length list) (length arena) ms (messages_of fs source pgn) = has_room (length list) (length arena) ms (messages_of fs source pgn) w.1 in
      let s : AreSplit ms × ((id : ℕ) → under id (own_frames source pgn fs) ≡ split_all id ms) = accepted fs source pgn bytes ms r.0 in
      record { narrow = is_none fs w.0; messages = s.0; frames = s.1; listed = r.1; stored = r.2 }

-- ---- what the splitter gives
module _ (id sequence : ℕ) (p : List ℕ) (room : ℕ) (fs : List Frame) (e : split_of id sequence p room ≡ gives fs) where
  -- it asked for all that strict reassembly asks of one message
  abbrev IsSplit : Type 0
  IsSplit = (1 ≤ length p) × (length p ≤ 223) × (sequence ≤ 7) × (id < 0x2000_0000) × (split_frames id sequence p ≡ fs)

  is_split : IsSplit
  unfolding split_of is_wide
  is_split =
      let empty = unmet (eqb (length p) 0) 28 _ e in
      let long = unmet (ltb 223 (length p)) 28 _ empty.1 in
      let high = unmet (ltb 7 sequence) 28 _ long.1 in
      let wide = unmet (leb 0x2000_0000 id) 8 _ high.1 in
      let short = unmet (ltb room (count_of (length p))) 27 _ wide.1 in
      let none : length p ≡ 0 → ⊥ = eqb-false (length p) 0 empty.0 in
      (omega arith, ltb-false 223 (length p) long.0, ltb-false 7 sequence high.0, leb-false 0x2000_0000 id wide.0, let z : gives (split_frames id sequence p) ≡ gives fs = short.1 in cc)

  pub split_accepted : (list arena : List ℕ) → 3 ≤ length list → length p ≤ length arena → delivered_to list arena fs (bench_source id) (bench_pgn id) ≡ gives (record { sequence = sequence; payload = p } ∷ [])
  split_accepted list arena listed stored =
      let s : IsSplit = is_split in
      subst (λ (x : List Frame). delivered_to list arena x (bench_source id) (bench_pgn id) ≡ gives (record { sequence = sequence; payload = p } ∷ [])) s.4
      (delivered id sequence p s.2 s.0 s.1 s.3 list arena listed stored)
