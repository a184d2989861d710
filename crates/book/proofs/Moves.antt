-- What one call can do to a ledger, in six cases. A machine shows once that each of its calls is one of them; what is to hold of every call is then a lemma of six cases.
-- Assumes nothing.
use mathlib.Core.Bool.{Bool}
use mathlib.Core.List.{List}
use mathlib.Core.Option.{Option, none, some}
use mathlib.Core.Path.{◌≡◌}
use Prim.Native.Nat.{ℕ, ◌<◌}
use lib.ListN.{length, get_or, set}
use Rattle.base.specs.Lists.{first_at, or_else}
use Rattle.book.specs.Book.{Message, grown, new_message, Place, idle, holds, held_in, Deed, Unlisted, BadFrame, NoSlot, Stray, AtOnce, Copied, Delivered, Broken, Told, opening_at, Machine}
use Rattle.base.proofs.First.{first_passes, Hit, hit, hits, misses}

-- ---- a place found is within the list

abbrev pub Within : ℕ → Option ℕ → Type 0
Within k none = Unit {0}
Within k (some i) = i < k

pub within_or : (k : ℕ) (a b : Option ℕ) → Within k a → Within k b → Within k (or_else a b)
unfolding or_else
within_or k none b ha hb = hb
within_or k (some i) b ha hb = ha

pub within_first : {A : Type 0} (t : A → Bool) (l : List A) (d : A) → Within (length l) (first_at t l)
within_first t l d = go (hit (first_at t l))
  where
    go : Hit (first_at t l) → Within (length l) (first_at t l)
    go (hits i e) = rw e (first_passes t l d i e).inside
    go (misses e) = rw e tt

-- ---- the six cases

-- the deeds of a call that moves nothing
pub data Quiet : Deed → Type 0 where
  is_unlisted : Quiet Unlisted
  is_badly : Quiet BadFrame
  is_refused : Quiet NoSlot
  is_stray : Quiet Stray

pub data Move {F : Type 0} (late : Message F → Bool) (n : ℕ) (ps : List (Place F)) (c : F) : Told F → Type 0 where
  stays : {d : Deed} → Quiet d → Move late n ps c (record { deed = d; message = none; places = ps })
  at_once : Move late n ps c (record { deed = AtOnce; message = some (new_message n c); places = ps })
  opened : (i : ℕ) → i < length ps → Move late n ps c (record { deed = opening_at late (get_or ps i (idle 0)); message = held_in (get_or ps i (idle 0)); places = set ps i (holds (new_message n c)) })
  grows : (i : ℕ) (m : Message F) → i < length ps → get_or ps i (idle 0) ≡ holds m → Move late n ps c (record { deed = Copied; message = some (grown m c); places = set ps i (holds (grown m c)) })
  -- the place is left idle, with any number
  delivers : (i : ℕ) (m : Message F) (kept : ℕ) → i < length ps → get_or ps i (idle 0) ≡ holds m → Move late n ps c (record { deed = Delivered; message = some (grown m c); places = set ps i (idle kept) })
  breaks : (i : ℕ) (m : Message F) (kept : ℕ) → i < length ps → get_or ps i (idle 0) ≡ holds m → Move late n ps c (record { deed = Broken; message = some m; places = set ps i (idle kept) })

-- every call of the machine is a move
abbrev pub Moves : {F : Type 0} → Machine F → (F → Message F → Bool) → Type 0
Moves {F} M late = (n : ℕ) (ps : List (Place F)) (c : F) → Move (late c) n ps c (M n ps c)
