-- The book balances: the five counts add up to the messages opened, and each opened message has exactly one fate. Both are one balance under a weighing of the
-- messages: what was opened weighs what was ended and is held. This is about the ledger alone; no slot and no counter stands here.
-- Assumes nothing.
use mathlib.Core.Bool.{Bool, true, false, ◌&&◌, ◌||◌}
use mathlib.Core.List.{List, [], ◌∷◌, map}
use mathlib.Core.Option.{Option, none, some}
use mathlib.Core.Path.{◌≡◌, refl, subst, ap, ap₂, ◌∙◌}
use Prim.Native.Nat.{ℕ, suc, ◌+◌, ◌≤◌, ◌<◌}
use native.Mathlib.Omega.{arith}
use lib.ListN.{length, get_or, set}
use lib.Dec.{eqb}
use borrow.Author.Tests.{eqb-true, eqb-false}
use Rattle.base.specs.Pick.{pick}
use Rattle.base.specs.Lists.{any, total}
use Rattle.base.proofs.Totals.{total_set}
use Rattle.base.proofs.First.{Test, test, passes, fails}
use Rattle.book.specs.Book.{Message, new_message, grown, Place, idle, holds, held_in, Deed, Restarting, Reclaiming, Delivered, Broken, deed_number, is_one_of, opens, ends, opening_at, Told, Entry, Ledger, Machine}
use Rattle.book.specs.Book.{numbered, written, tell, blank, as_number, how_many, did, openings, is_some, held, is_message, was_opened, fates_of}
use Rattle.book.proofs.Moves.{Quiet, is_unlisted, is_badly, is_refused, is_stray, Move, stays, at_once, opened, grows, delivers, breaks, Moves}

-- ---- weights

unfoldable pub only_if : Bool → ℕ → ℕ
only_if true x = x
only_if false x = 0

-- what a call opens and what it ends
unfoldable pub weight_opened : (ℕ → ℕ) → ℕ → Deed → ℕ
weight_opened w n d = only_if (opens d) (w n)

module _ {F : Type 0} (w : ℕ → ℕ) where
  unfoldable pub weight : Option (Message F) → ℕ
  weight none = 0
  weight (some m) = w m.number

  unfoldable pub weight_ended : Deed → Option (Message F) → ℕ
  weight_ended d o = only_if (ends d) (weight o)

  unfoldable pub weight_held : Place F → ℕ
  weight_held p = weight (held_in p)

-- ---- one call

module _ {F : Type 0} (w : ℕ → ℕ) (n : ℕ) where
  -- what is ended and held after the call is what was held before and what it opened
  abbrev Flow : List (Place F) → Told F → Type 0
  Flow ps t = weight_ended w t.deed t.message + total (weight_held w) t.places ≡ weight_opened w n t.deed + total (weight_held w) ps

  flow_late : (b : Bool) (m : Message F) (x y : ℕ) → x + w m.number ≡ y + w n → weight_ended w (pick b Reclaiming Restarting) (some m) + x ≡ weight_opened w n (pick b Reclaiming Restarting) + y
  unfolding weight_ended weight_opened only_if opens ends is_one_of any deed_number weight pick
  flow_late true m x y h = omega arith
  flow_late false m x y h = omega arith

  flow_opening : (late : Message F → Bool) (p : Place F) (x y : ℕ) → x + weight_held w p ≡ y + w n → weight_ended w (opening_at late p) (held_in p) + x ≡ weight_opened w n (opening_at late p) + y
  unfolding weight_ended weight_opened only_if opens ends is_one_of any deed_number weight weight_held held_in opening_at
  flow_opening late (idle kept) x y h = omega arith
  flow_opening late (holds m) x y h = flow_late (late m) m x y h

  -- a store at the place of message m
  stores : (ps : List (Place F)) (i : ℕ) (m : Message F) (a : Place F) → i < length ps → get_or ps i (idle 0) ≡ holds m → total (weight_held w) (set ps i a) + w m.number ≡ total (weight_held w) ps + weight_held w a
  unfolding weight_held held_in weight
  stores ps i m a u e = subst (λ (p : Place F). total (weight_held w) (set ps i a) + weight_held w p ≡ total (weight_held w) ps + weight_held w a) e (total_set (weight_held w) ps i a (idle 0) u)

  flow_quiet : (ps : List (Place F)) {d : Deed} → Quiet d → Flow ps (record { deed = d; message = none; places = ps })
  unfolding weight_ended weight_opened only_if opens ends is_one_of any deed_number
  flow_quiet ps is_unlisted = refl
  flow_quiet ps is_badly = refl
  flow_quiet ps is_refused = refl
  flow_quiet ps is_stray = refl

  flow : (late : Message F → Bool) (ps : List (Place F)) (c : F) (t : Told F) → Move late n ps c t → Flow ps t
  unfolding weight_ended weight_opened only_if opens ends is_one_of any deed_number weight weight_held held_in new_message grown
  flow late ps c t (stays q) = flow_quiet ps q
  flow late ps c t at_once = refl
  flow late ps c t (opened i u) = flow_opening late (get_or ps i (idle 0)) _ _ (total_set (weight_held w) ps i (holds (new_message n c)) (idle 0) u)
  flow late ps c t (grows i m u e) = omega (arith, stores ps i m (holds (grown m c)) u e)
  flow late ps c t (delivers i m kept u e) = omega (arith, stores ps i m (idle kept) u e)
  flow late ps c t (breaks i m kept u e) = omega (arith, stores ps i m (idle kept) u e)

-- the four ends, counted one by one: a call that ends a message tells of one
unfoldable pub four_ends : Deed → ℕ
four_ends d = as_number (is_one_of (Delivered ∷ []) d) + as_number (is_one_of (Broken ∷ []) d) + as_number (is_one_of (Restarting ∷ []) d) + as_number (is_one_of (Reclaiming ∷ []) d)

unfoldable pub one : ℕ → ℕ
one k = 1

module _ {F : Type 0} where
  four_late : (b : Bool) (m : Message F) → weight_ended one (pick b Reclaiming Restarting) (some m) ≡ four_ends (pick b Reclaiming Restarting)
  unfolding weight_ended only_if ends is_one_of any deed_number weight four_ends as_number one pick
  four_late true m = refl
  four_late false m = refl

  four_opening : (late : Message F → Bool) (p : Place F) → weight_ended one (opening_at late p) (held_in p) ≡ four_ends (opening_at late p)
  unfolding weight_ended only_if ends is_one_of any deed_number weight four_ends as_number held_in opening_at
  four_opening late (idle kept) = refl
  four_opening late (holds m) = four_late (late m) m

  four : (late : Message F → Bool) (n : ℕ) (ps : List (Place F)) (c : F) (t : Told F) → Move late n ps c t → weight_ended one t.deed t.message ≡ four_ends t.deed
  unfolding weight_ended only_if ends is_one_of any deed_number weight four_ends as_number one
  four late n ps c t (stays is_unlisted) = refl
  four late n ps c t (stays is_badly) = refl
  four late n ps c t (stays is_refused) = refl
  four late n ps c t (stays is_stray) = refl
  four late n ps c t at_once = refl
  four late n ps c t (opened i u) = four_opening late (get_or ps i (idle 0))
  four late n ps c t (grows i m u e) = refl
  four late n ps c t (delivers i m kept u e) = refl
  four late n ps c t (breaks i m kept u e) = refl

-- ---- the whole ledger

module _ {F : Type 0} where
  unfoldable pub all_ended : (ℕ → ℕ) → Ledger F → ℕ
  all_ended w L = total (λ (e : Entry F). weight_ended w e.deed e.message) L.entries

  unfoldable pub all_opened : (ℕ → ℕ) → Ledger F → ℕ
  all_opened w L = total (λ (e : Entry F). weight_opened w e.number e.deed) L.entries

  unfoldable pub all_held : (ℕ → ℕ) → Ledger F → ℕ
  all_held w L = total (weight_held w) L.places

  unfoldable pub all_four : Ledger F → ℕ
  all_four L = total (λ (e : Entry F). four_ends e.deed) L.entries

unfoldable pub is : ℕ → ℕ → ℕ
is k n = as_number (eqb k n)

pub record Balanced {F : Type 0} (L : Ledger F) : Type 0 where
  pub weighed : (w : ℕ → ℕ) → all_ended w L + all_held w L ≡ all_opened w L
  pub ended : all_ended one L ≡ all_four L
  -- message k is opened at most once, and not before call k
  pub once : (k : ℕ) → all_opened (is k) L ≤ 1
  pub not_yet : (k : ℕ) → numbered L ≤ k → all_opened (is k) L ≡ 0

-- what call n adds to the openings of message k: at most 1, and nothing if it is another call
record Adds (k n x : ℕ) : Type 0 where
  small : x ≤ 1
  other : (k ≡ n → ⊥) → x ≡ 0

adds_test : (b : Bool) (k n : ℕ) → eqb k n ≡ b → Adds k n (as_number b)
unfolding as_number
adds_test true k n e = record { small = omega arith; other = λ h. absurd (h (eqb-true k n e)) }
adds_test false k n e = record { small = omega arith; other = λ h. refl }

adds : (b : Bool) (k n : ℕ) → Adds k n (only_if b (is k n))
unfolding only_if is
adds true k n = adds_test (eqb k n) k n refl
adds false k n = record { small = omega arith; other = λ h. refl }

once_at_most : (k n x t : ℕ) → Test (eqb k n) → Adds k n x → t ≤ 1 → (n ≤ k → t ≡ 0) → x + t ≤ 1
once_at_most k n x t (passes e) a h z = omega (arith, a.small, eqb-true k n e, z (omega (arith, eqb-true k n e)))
once_at_most k n x t (fails e) a h z = omega (arith, a.other (eqb-false k n e))

once_not_yet : (k n x t : ℕ) → Adds k n x → (n ≤ k → t ≡ 0) → suc n ≤ k → x + t ≡ 0
once_not_yet k n x t a z l = omega (arith, a.other (λ e. omega arith), z (omega arith))

none_held : (F : Type 0) (w : ℕ → ℕ) (kept : List ℕ) → total (weight_held {F = F} w) (map idle kept) ≡ 0
unfolding total weight_held held_in weight
none_held F w [] = refl
none_held F w (k ∷ ks) = omega (arith, none_held F w ks)

pub balanced_blank : {F : Type 0} (kept : List ℕ) → Balanced {F = F} (blank kept)
unfolding all_ended all_held all_opened all_four blank total
balanced_blank {F} kept = record { weighed = λ w. omega (arith, none_held F w kept); ended = refl; once = λ k. omega arith; not_yet = λ k l. refl }

module _ {F : Type 0} (M : Machine F) (late : F → Message F → Bool) (moves : Moves M late) where
  pub balanced_tell : (L : Ledger F) (c : F) → Balanced L → Balanced (tell M L c)
  unfolding all_ended all_held all_opened all_four tell written total numbered weight_opened
  balanced_tell L c b =
      let n : ℕ = length L.entries in
      let t : Told F = M n L.places c in
      let m : Move (late c) n L.places c t = moves n L.places c in
      record {
        weighed = λ w. omega (arith, flow w n (late c) L.places c t m, b.weighed w);
        ended = ap₂ ◌+◌ (four (late c) n L.places c t m) b.ended;
        once = λ k. once_at_most k n _ _ (test (eqb k n)) (adds (opens t.deed) k n) (b.once k) (b.not_yet k);
        not_yet = λ k l. once_not_yet k n _ _ (adds (opens t.deed) k n) (b.not_yet k) l;
      }

-- ---- the two sentences

total_same : {A : Type 0} (f g : A → ℕ) → ((a : A) → f a ≡ g a) → (l : List A) → total f l ≡ total g l
unfolding total
total_same f g e [] = refl
total_same f g e (x ∷ xs) = ap₂ ◌+◌ (e x) (total_same f g e xs)

total_four : {A : Type 0} (a b c d : A → ℕ) (l : List A) → total (λ (x : A). a x + b x + c x + d x) l ≡ total a l + total b l + total c l + total d l
unfolding total
total_four a b c d [] = refl
total_four a b c d (x ∷ xs) = omega (arith, total_four a b c d xs)

only_one : (b : Bool) → only_if b 1 ≡ as_number b
unfolding only_if as_number
only_one true = refl
only_one false = refl

only_and : (b x : Bool) → only_if b (as_number x) ≡ as_number (b && x)
unfolding only_if as_number
only_and true x = refl
only_and false x = refl

-- some element passes, where at most one does
any_step : (b c : Bool) (n : ℕ) → (n ≤ 1 → n ≡ as_number c) → as_number b + n ≤ 1 → as_number b + n ≡ as_number (b || c)
unfolding as_number
any_step true c n later small = omega arith
any_step false c n later small = omega (arith, later (omega arith))

any_one : {A : Type 0} (t : A → Bool) (l : List A) → how_many t l ≤ 1 → how_many t l ≡ as_number (any t l)
unfolding how_many total any
any_one t [] h = unfold as_number in refl
any_one t (x ∷ xs) h = any_step (t x) (any t xs) (how_many t xs) (any_one t xs) h

module _ {F : Type 0} (L : Ledger F) (b : Balanced L) where
  held_weight : (o : Option (Message F)) → weight one o ≡ as_number (is_some o)
  unfolding weight one as_number is_some
  held_weight none = refl
  held_weight (some m) = refl

  message_weight : (k : ℕ) (o : Option (Message F)) → weight (is k) o ≡ as_number (is_message k o)
  unfolding weight is as_number is_message
  message_weight k none = refl
  message_weight k (some m) = refl

  -- the five counts add up to those opened
  pub five_counts : did Delivered L + did Broken L + did Restarting L + did Reclaiming L + held L ≡ openings L
  five_counts =
      let four : all_four L ≡ did Delivered L + did Broken L + did Restarting L + did Reclaiming L = unfold all_four did how_many four_ends in total_four _ _ _ _ L.entries in
      let still : all_held one L ≡ held L = unfold all_held held how_many weight_held in total_same _ _ (λ (p : Place F). held_weight (held_in p)) L.places in
      let opening : all_opened one L ≡ openings L = unfold all_opened openings how_many weight_opened one in total_same _ _ (λ (e : Entry F). only_one (opens e.deed)) L.entries in
      omega (arith, b.weighed one, b.ended, four, still, opening)

  -- each opened message has exactly one fate, and a number that was not opened has none
  pub one_fate : (k : ℕ) → fates_of k L ≡ as_number (was_opened k L)
  unfolding fates_of was_opened
  one_fate k =
      let ending : all_ended (is k) L ≡ how_many (λ (e : Entry F). ends e.deed && is_message k e.message) L.entries =
      unfold all_ended how_many weight_ended in total_same _ _ (λ (e : Entry F). ap (only_if (ends e.deed)) (message_weight k e.message) ∙ only_and (ends e.deed) (is_message k e.message)) L.entries in
      let still : all_held (is k) L ≡ how_many (λ (p : Place F). is_message k (held_in p)) L.places =
      unfold all_held how_many weight_held in total_same _ _ (λ (p : Place F). message_weight k (held_in p)) L.places in
      let opening : all_opened (is k) L ≡ how_many (λ (e : Entry F). opens e.deed && eqb k e.number) L.entries =
      unfold all_opened how_many weight_opened is in total_same _ _ (λ (e : Entry F). only_and (opens e.deed) (eqb k e.number)) L.entries in
      let single : how_many (λ (e : Entry F). opens e.deed && eqb k e.number) L.entries ≡ as_number (was_opened k L) =
      any_one (λ (e : Entry F). opens e.deed && eqb k e.number) L.entries (omega (arith, opening, b.once k)) in
      omega (arith, b.weighed (is k), ending, still, opening, single)
