-- A message's own frames are what the book says by its number: the frame of the call which began it, and all the frames copied for it, each of a call of the run,
-- in order.
-- Assumes nothing.
use mathlib.Core.Bool.{Bool, true, false}
use mathlib.Core.List.{List, [], ◌∷◌, ◌++◌, map}
use mathlib.Core.Option.{Option, none, some}
use mathlib.Core.Path.{◌≡◌, refl, sym, ap, subst, ◌∙◌}
use Prim.Native.Nat.{ℕ, zero, suc, ◌+◌, ◌≤◌, ◌<◌}
use native.Mathlib.Omega.{arith}
use lib.ListN.{length, get_or, set, length-set}
use lib.Seq.{get_or-set_same, get_or-set_other}
use lib.Dec.{eqb}
use borrow.Author.Tests.{eqb-true, eqb-false, eq-eqb, ne_eqb}
use Rattle.base.specs.Pick.{pick}
use Rattle.base.specs.Lists.{any, total}
use Rattle.base.proofs.Totals.{total_two}
use Rattle.base.proofs.First.{Test, test, passes, fails}
use Rattle.book.specs.Book.{Message, new_message, grown, Place, idle, holds, held_in, Deed, AtOnce, Restarting, Reclaiming, Copied, Delivered, Broken, deed_number, is_one_of, begins, copies, opening_at, Told, Entry, Ledger, Machine}
use Rattle.book.specs.Book.{numbered, written, tell, tells, blank, as_number, is_message, belongs, frames_of, Owned, OwnBook}
use Rattle.book.proofs.Moves.{Quiet, is_unlisted, is_badly, is_refused, is_stray, Move, stays, at_once, opened, grows, delivers, breaks, Moves}
use Rattle.book.proofs.Balance.{is, weight, weight_held, all_held, Balanced, balanced_blank, balanced_tell}

-- ---- what a new entry adds to the frames of message k

module _ {F : Type 0} where
  frames_silent : (k : ℕ) (e : Entry F) (es : List (Entry F)) → belongs k e ≡ false → frames_of k (e ∷ es) ≡ frames_of k es
  unfolding frames_of pick
  frames_silent k e es q = rw q

  frames_more : (k : ℕ) (e : Entry F) (es : List (Entry F)) → belongs k e ≡ true → frames_of k (e ∷ es) ≡ e.frame ∷ frames_of k es
  unfolding frames_of pick
  frames_more k e es q = rw q

  entry_of : ℕ → F → Deed → Option (Message F) → Entry F
  entry_of n c d o = record { number = n; frame = c; deed = d; message = o }

  -- an entry that begins nothing and copies nothing
  silent_quiet : (k n : ℕ) (c : F) {d : Deed} → Quiet d → belongs k (entry_of n c d none) ≡ false
  unfolding entry_of belongs begins copies is_one_of any deed_number pick
  silent_quiet k n c is_unlisted = refl
  silent_quiet k n c is_badly = refl
  silent_quiet k n c is_refused = refl
  silent_quiet k n c is_stray = refl

  silent_broken : (k n : ℕ) (c : F) (m : Message F) → belongs k (entry_of n c Broken (some m)) ≡ false
  unfolding entry_of belongs begins copies is_one_of any deed_number pick
  silent_broken k n c m = refl

  -- an entry that copies, for message m alone
  copies_for : (k n : ℕ) (c : F) (m : Message F) → belongs k (entry_of n c Copied (some m)) ≡ eqb k m.number
  unfolding entry_of belongs begins copies is_one_of any deed_number pick is_message
  copies_for k n c m = refl

  delivers_for : (k n : ℕ) (c : F) (m : Message F) → belongs k (entry_of n c Delivered (some m)) ≡ eqb k m.number
  unfolding entry_of belongs begins copies is_one_of any deed_number pick is_message
  delivers_for k n c m = refl

  -- an entry that begins, its own number alone
  begins_at_once : (k n : ℕ) (c : F) (o : Option (Message F)) → belongs k (entry_of n c AtOnce o) ≡ eqb k n
  unfolding entry_of belongs begins copies is_one_of any deed_number pick
  begins_at_once k n c o = refl

  begins_late : (b : Bool) (k n : ℕ) (c : F) (o : Option (Message F)) → belongs k (entry_of n c (pick b Reclaiming Restarting) o) ≡ eqb k n
  unfolding entry_of belongs begins copies is_one_of any deed_number pick
  begins_late true k n c o = refl
  begins_late false k n c o = refl

  begins_at : (late : Message F → Bool) (k n : ℕ) (c : F) (p : Place F) → belongs k (entry_of n c (opening_at late p) (held_in p)) ≡ eqb k n
  unfolding opening_at
  begins_at late k n c (idle kept) = unfold entry_of belongs begins copies is_one_of any deed_number pick in refl
  begins_at late k n c (holds m) = begins_late (late m) k n c (held_in (holds m))

  -- ---- the places of a ledger

  abbrev Mine : List (Entry F) → Message F → Type 0
  Mine es m = frames_of m.number es ≡ m.later ++ (m.first ∷ [])

  abbrev pub OwnedAt : List (Entry F) → Place F → Type 0
  OwnedAt es (idle kept) = Unit {0}
  OwnedAt es (holds m) = Mine es m × (m.number < length es)

  -- an entry that is silent for the message of a place leaves it owned
  abbrev SilentAt : Entry F → Place F → Type 0
  SilentAt e (idle kept) = Unit {0}
  SilentAt e (holds m) = belongs m.number e ≡ false

  owned_at_silent : (e : Entry F) (es : List (Entry F)) (p : Place F) → SilentAt e p → OwnedAt es p → OwnedAt (e ∷ es) p
  owned_at_silent e es (idle kept) q o = tt
  owned_at_silent e es (holds m) q o = (frames_silent m.number e es q ∙ o.0, omega (arith, o.1))

  owned_held : (es : List (Entry F)) (p : Place F) → OwnedAt es p → Owned es (held_in p)
  unfolding Owned held_in
  owned_held es (idle kept) o = tt
  owned_held es (holds m) o = o.0

  -- every place but i as before, and place i owned anew
  owned_set : (e : Entry F) (es : List (Entry F)) (ps : List (Place F)) (i : ℕ) (a : Place F) → i < length ps
      → ((j : ℕ) → j < length ps → OwnedAt es (get_or ps j (idle 0)))
      → ((j : ℕ) → j < length ps → (j ≡ i → ⊥) → SilentAt e (get_or ps j (idle 0)))
      → OwnedAt (e ∷ es) a
      → (j : ℕ) → j < length (set ps i a) → OwnedAt (e ∷ es) (get_or (set ps i a) j (idle 0))
  owned_set e es ps i a u old quiet anew j v = go (test (eqb j i))
    where
      v' : j < length ps
      v' = rw (length-set ps i a) at v

      go : Test (eqb j i) → OwnedAt (e ∷ es) (get_or (set ps i a) j (idle 0))
      go (passes t) = rw (eqb-true j i t, get_or-set_same ps i a (idle 0) u) anew
      go (fails f) = rw (get_or-set_other ps i j a (idle 0) (eqb-false j i f)) (owned_at_silent e es (get_or ps j (idle 0)) (quiet j v' (eqb-false j i f)) (old j v'))

  -- two places hold two messages
  apart : (ps : List (Place F)) (i j : ℕ) (m m' : Message F) → i < length ps → j < length ps → (j ≡ i → ⊥) → get_or ps i (idle 0) ≡ holds m → get_or ps j (idle 0) ≡ holds m'
      → total (weight_held (is m.number)) ps ≤ 1 → m'.number ≡ m.number → ⊥
  unfolding weight_held held_in weight is as_number
  apart ps i j m m' u v q e e' one s =
      let two : weight_held (is m.number) (get_or ps i (idle 0)) + weight_held (is m.number) (get_or ps j (idle 0)) ≤ total (weight_held (is m.number)) ps = total_two (weight_held (is m.number)) ps i j (idle 0) u v (λ r. q (sym r)) in
      let both : as_number (eqb m.number m.number) + as_number (eqb m.number m'.number) ≤ total (weight_held (is m.number)) ps = rw (e, e') at two in
      let same : as_number true + as_number true ≤ total (weight_held (is m.number)) ps = rw (eq-eqb m.number m.number refl, eq-eqb m.number m'.number (sym s)) at both in
      omega arith

idle_owned : (F : Type 0) (kept : List ℕ) (j : ℕ) → OwnedAt {F = F} [] (get_or (map idle kept) j (idle 0))
idle_owned F [] j = tt
idle_owned F (k ∷ ks) zero = tt
idle_owned F (k ∷ ks) (suc j) = idle_owned F ks j

pub record Books {F : Type 0} (L : Ledger F) : Type 0 where
  pub places : (j : ℕ) → j < length L.places → OwnedAt L.entries (get_or L.places j (idle 0))
  pub future : (k : ℕ) → numbered L ≤ k → frames_of k L.entries ≡ []

module _ {F : Type 0} (late : Message F → Bool) (L : Ledger F) (c : F) (b : Books L) (single : (k : ℕ) → all_held (is k) L ≤ 1) where
  entry : Deed → Option (Message F) → Entry F
  entry d o = record { number = numbered L; frame = c; deed = d; message = o }

  abbrev Silent : ℕ → Entry F → Type 0
  Silent k e = belongs k e ≡ false

  -- an entry that is silent but for message m, which place i holds, is silent at every other place
  silent_others : (x : Entry F) (i : ℕ) (m : Message F) → i < length L.places → get_or L.places i (idle 0) ≡ holds m
      → ((k : ℕ) → (k ≡ m.number → ⊥) → Silent k x)
      → (j : ℕ) → j < length L.places → (j ≡ i → ⊥) → SilentAt x (get_or L.places j (idle 0))
  unfolding all_held
  silent_others x i m u e q j v r = go (get_or L.places j (idle 0)) refl
    where
      go : (p : Place F) → get_or L.places j (idle 0) ≡ p → SilentAt x p
      go (idle kept) e' = tt
      go (holds m') e' = q m'.number (apart L.places i j m m' u v r e e' (single m.number))

  -- an entry that is silent for every message is silent at every place
  silent_all : (x : Entry F) → ((k : ℕ) → Silent k x) → (p : Place F) → SilentAt x p
  silent_all x q (idle kept) = tt
  silent_all x q (holds m) = q m.number

  -- an entry that is silent for every message before it
  silent_old : (x : Entry F) → ((k : ℕ) → (k ≡ numbered L → ⊥) → Silent k x) → (p : Place F) → OwnedAt L.entries p → SilentAt x p
  unfolding numbered
  silent_old x q (idle kept) o = tt
  silent_old x q (holds m) o = q m.number (λ s. omega (arith, o.1))

  held_owned : (i : ℕ) (m : Message F) → i < length L.places → get_or L.places i (idle 0) ≡ holds m → Mine L.entries m × (m.number < length L.entries)
  held_owned i m u e = subst (OwnedAt L.entries) e (b.places i u)

  -- the frames with one more
  grown_owned : (d : Deed) (m : Message F) → belongs m.number (entry d (some (grown m c))) ≡ true → Mine L.entries m → Mine (entry d (some (grown m c)) ∷ L.entries) (grown m c)
  unfolding grown
  grown_owned d m q o = frames_more m.number (entry d (some (grown m c))) L.entries q ∙ (unfold entry grown in ap (◌∷◌ c) o)

  -- a message begun by this call
  new_owned : (d : Deed) (o : Option (Message F)) → belongs (numbered L) (entry d o) ≡ true → Mine (entry d o ∷ L.entries) (new_message (numbered L) c)
  unfolding new_message
  new_owned d o q = frames_more (numbered L) (entry d o) L.entries q ∙ (unfold entry in ap (◌∷◌ c) (b.future (numbered L) (omega arith)))

  future_silent : (x : Entry F) → ((k : ℕ) → suc (numbered L) ≤ k → Silent k x) → (k : ℕ) → suc (numbered L) ≤ k → frames_of k (x ∷ L.entries) ≡ []
  future_silent x later k l = frames_silent k x L.entries (later k l) ∙ b.future k (omega arith)

  -- the book after an entry and a store at place i
  books_set : (d : Deed) (o : Option (Message F)) (i : ℕ) (a : Place F) → i < length L.places
      → ((j : ℕ) → j < length L.places → (j ≡ i → ⊥) → SilentAt (entry d o) (get_or L.places j (idle 0)))
      → ((k : ℕ) → suc (numbered L) ≤ k → Silent k (entry d o))
      → OwnedAt (entry d o ∷ L.entries) a
      → Books (written L c (record { deed = d; message = o; places = set L.places i a }))
  unfolding written entry numbered
  books_set d o i a u others later anew =
      record { places = owned_set (entry d o) L.entries L.places i a u b.places others anew; future = future_silent (entry d o) later }

  -- ... or with the places as they were
  books_stay : (d : Deed) (o : Option (Message F)) → ((p : Place F) → OwnedAt L.entries p → SilentAt (entry d o) p) → ((k : ℕ) → suc (numbered L) ≤ k → Silent k (entry d o))
      → Books (written L c (record { deed = d; message = o; places = L.places }))
  unfolding written entry numbered
  books_stay d o silent later =
      record {
        places = λ j v. owned_at_silent (entry d o) L.entries (get_or L.places j (idle 0)) (silent (get_or L.places j (idle 0)) (b.places j v)) (b.places j v);
        future = future_silent (entry d o) later;
      }

  abbrev Kept : Told F → Type 0
  Kept t = Books (written L c t) × Owned (entry t.deed t.message ∷ L.entries) t.message

  keeps_stays : (d : Deed) → Quiet d → Kept (record { deed = d; message = none; places = L.places })
  unfolding entry entry_of Owned
  keeps_stays d q =
      let quiet : (k : ℕ) → Silent k (entry d none) = λ k. (silent_quiet k (numbered L) c q) in
      (books_stay d none (λ p o. silent_all (entry d none) quiet p) (λ k l. quiet k), tt)

  keeps_at_once : Kept (record { deed = AtOnce; message = some (new_message (numbered L) c); places = L.places })
  unfolding entry entry_of Owned
  keeps_at_once =
      let o : Option (Message F) = some (new_message (numbered L) c) in
      let begun : (k : ℕ) → belongs k (entry AtOnce o) ≡ eqb k (numbered L) = λ k. (begins_at_once k (numbered L) c o) in
      let quiet : (k : ℕ) → (k ≡ numbered L → ⊥) → Silent k (entry AtOnce o) = λ k q. begun k ∙ ne_eqb k (numbered L) q in (
        books_stay AtOnce o (λ p w. silent_old (entry AtOnce o) quiet p w) (λ k l. quiet k (λ s. omega arith)),
        new_owned AtOnce o (begun (numbered L) ∙ eq-eqb (numbered L) (numbered L) refl),
      )

  keeps_opens : (i : ℕ) → i < length L.places → Kept (record { deed = opening_at late (get_or L.places i (idle 0)); message = held_in (get_or L.places i (idle 0)); places = set L.places i (holds (new_message (numbered L) c)) })
  unfolding entry entry_of
  keeps_opens i u =
      let p : Place F = get_or L.places i (idle 0) in
      let d : Deed = opening_at late p in
      let x : Entry F = entry d (held_in p) in
      let begun : (k : ℕ) → belongs k x ≡ eqb k (numbered L) = λ k. (begins_at late k (numbered L) c p) in
      let quiet : (k : ℕ) → (k ≡ numbered L → ⊥) → Silent k x = λ k q. begun k ∙ ne_eqb k (numbered L) q in (
        books_set d (held_in p) i (holds (new_message (numbered L) c)) u
            (λ j v r. silent_old x quiet (get_or L.places j (idle 0)) (b.places j v))
            (λ k l. quiet k (λ s. omega arith))
            (new_owned d (held_in p) (begun (numbered L) ∙ eq-eqb (numbered L) (numbered L) refl), unfold new_message numbered in omega arith),
        owned_held (x ∷ L.entries) p (owned_at_silent x L.entries p (silent_old x quiet p (b.places i u)) (b.places i u)),
      )

  module _ (i : ℕ) (m : Message F) (u : i < length L.places) (e : get_or L.places i (idle 0) ≡ holds m) where
    young : m.number < length L.entries
    young = (held_owned i m u e).1

    -- an entry that copies for m
    copying : (d : Deed) → ((k : ℕ) → belongs k (entry d (some (grown m c))) ≡ eqb k m.number) → (a : Place F)
        → (Mine (entry d (some (grown m c)) ∷ L.entries) (grown m c) → OwnedAt (entry d (some (grown m c)) ∷ L.entries) a) → Kept (record { deed = d; message = some (grown m c); places = set L.places i a })
    unfolding Owned
    copying d for a at =
        let x : Entry F = entry d (some (grown m c)) in
        let quiet : (k : ℕ) → (k ≡ m.number → ⊥) → Silent k x = λ k q. for k ∙ ne_eqb k m.number q in
        let own : Mine (x ∷ L.entries) (grown m c) = grown_owned d m (for m.number ∙ eq-eqb m.number m.number refl) (held_owned i m u e).0 in
        (books_set d (some (grown m c)) i a u (silent_others x i m u e quiet) (λ k l. quiet k (λ s. unfold numbered in omega (arith, young))) (at own), own)

    keeps_grows : Kept (record { deed = Copied; message = some (grown m c); places = set L.places i (holds (grown m c)) })
    unfolding entry entry_of grown
    keeps_grows = copying Copied (λ k. copies_for k (numbered L) c (grown m c)) (holds (grown m c)) (λ own. (own, unfold grown in omega (arith, young)))

    keeps_delivers : (kept : ℕ) → Kept (record { deed = Delivered; message = some (grown m c); places = set L.places i (idle kept) })
    unfolding entry entry_of grown
    keeps_delivers kept = copying Delivered (λ k. delivers_for k (numbered L) c (grown m c)) (idle kept) (λ own. tt)

    keeps_breaks : (kept : ℕ) → Kept (record { deed = Broken; message = some m; places = set L.places i (idle kept) })
    unfolding entry entry_of Owned
    keeps_breaks kept =
        let x : Entry F = entry Broken (some m) in
        let quiet : (k : ℕ) → Silent k x = λ k. (silent_broken k (numbered L) c m) in (
          books_set Broken (some m) i (idle kept) u (λ j v r. silent_all x quiet (get_or L.places j (idle 0))) (λ k l. quiet k) tt,
          (frames_silent m.number x L.entries (quiet m.number) ∙ (held_owned i m u e).0),
        )

  books_move : (t : Told F) → Move late (numbered L) L.places c t → Kept t
  books_move t (stays {d} q) = keeps_stays d q
  books_move t at_once = keeps_at_once
  books_move t (opened i u) = keeps_opens i u
  books_move t (grows i m u e) = keeps_grows i m u e
  books_move t (delivers i m kept u e) = keeps_delivers i m u e kept
  books_move t (breaks i m kept u e) = keeps_breaks i m u e kept

-- ---- over all the calls

pub record Owns {F : Type 0} (L : Ledger F) : Type 0 where
  pub books : Books L
  pub balance : Balanced L
  pub own : OwnBook L.entries

module _ {F : Type 0} where
  held_single : (L : Ledger F) → Owns L → (k : ℕ) → all_held (is k) L ≤ 1
  held_single L o k = omega (arith, o.balance.weighed (is k), o.balance.once k)

  owns_blank : (kept : List ℕ) → Owns {F = F} (blank kept)
  owns_blank kept =
      record {
        books = unfold blank numbered frames_of in record { places = λ j v. idle_owned F kept j; future = λ k l. refl };
        balance = balanced_blank kept;
        own = unfold blank OwnBook in tt;
      }

module _ {F : Type 0} (M : Machine F) (late : F → Message F → Bool) (moves : Moves M late) where
  owns_tell : (L : Ledger F) (c : F) → Owns L → Owns (tell M L c)
  owns_tell L c o =
      let k = books_move (late c) L c o.books (held_single L o) (M (numbered L) L.places c) (moves (numbered L) L.places c) in
      record { books = unfold tell in k.0; balance = balanced_tell M late moves L c o.balance; own = unfold tell written OwnBook in (unfold entry in k.1, o.own) }

  owns_tells : (L : Ledger F) (cs : List F) → Owns L → Owns (tells M L cs)
  unfolding tells
  owns_tells L [] o = o
  owns_tells L (c ∷ cs) o = owns_tells (tell M L c) cs (owns_tell L c o)

  pub owns : (kept : List ℕ) (cs : List F) → Owns (tells M (blank kept) cs)
  owns kept cs = owns_tells (blank kept) cs (owns_blank kept)
