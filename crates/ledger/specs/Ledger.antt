-- The ledger of a run, told from the calls alone by document 01's steps, with the cut frames of document 02's No. 5. It knows no buffer, no running size, no
-- index and no counter: of each place it knows only which message it holds, and of each message which call began it and which frames are its own.
-- Messages, places, deeds and entries are those of the crate `book`, over the calls.
use Rattle.std.specs.Prelude.{Bool, true, false, not, ◌&&◌, List, [], ◌∷◌, ◌++◌, ℕ, ◌+◌, ◌-◌, min, length, get_or, take, drop, set, eqb, ltb, leb}
use Rattle.std.proofs.Math.Option.{Option, none, some}
use Rattle.base.specs.Pick.{pick}
use Rattle.base.specs.Lists.{first_at, or_else}
use Rattle.book.specs.Book as book
pub use Rattle.book.specs.Book.{idle, holds, Deed, Unlisted, BadFrame, NoSlot, Stray, AtOnce, Opening, Restarting, Reclaiming, Copied, Delivered, Broken}
unfoldable pub use Rattle.book.specs.Book.{deed_number, is_one_of, opens, begins, copies, ends, new_message, grown, held_in, opening_at, numbered, written, tell, tells, blank}
unfoldable pub use Rattle.book.specs.Book.{as_number, how_many, did, openings, is_some, held, is_message, was_opened, fates_of, belongs, frames_of, Owned, OwnBook}
use Rattle.session.specs.declared.Kind.{Kind}
use Rattle.session.specs.declared.Kind.TheVariants.{NotListed, Rejected, PoolFull, Lost, FragmentConsumed, MessageComplete}
use Rattle.session.specs.Rules.{Rules}
use Rattle.session.specs.Frames.{key_of, index_of, size_of, sent_bytes, is_empty, bad_first}
use Rattle.assembler.specs.Call.{Call, listed}
use Rattle.assembler.specs.Step.{padded}
use Rattle.assembler.specs.View.{zeros}

abbrev pub Message : Type 0
Message = book.Message Call

abbrev pub Place : Type 0
Place = book.Place Call

abbrev pub Told : Type 0
Told = book.Told Call

abbrev pub Entry : Type 0
Entry = book.Entry Call

abbrev pub Ledger : Type 0
Ledger = book.Ledger Call

-- ---- what 01's steps make of a message and a place

-- its own frames' bytes as they were sent, in the order of the calls: up to six of the first frame, after sequence and size; up to seven of each
-- continuation, after the sequence
unfoldable pub frames_bytes : Call → List Call → List ℕ
frames_bytes first [] = take 6 (drop 2 (sent_bytes first.heard))
frames_bytes first (c ∷ older) = frames_bytes first older ++ drop 1 (sent_bytes c.heard)

unfoldable pub own_bytes : Message → List ℕ
own_bytes m = frames_bytes m.first m.later

unfoldable pub announced : Message → ℕ
announced m = size_of m.first.heard

-- "in progress with this key, expired or not"
unfoldable pub key_held : Rules → Call → Place → Bool
key_held R c (idle kept) = false
key_held R c (holds m) = R.same_key (key_of m.first.heard) (key_of c.heard)

-- its latest own frame
unfoldable pub latest_of : Call → List Call → Call
latest_of first [] = first
latest_of first (c ∷ older) = c

-- silent since then
unfoldable pub late : Rules → Call → Message → Bool
late R c m = R.silent c.heard.now_ms (latest_of m.first m.later).heard.now_ms

-- "free if idle or silent over 500"
unfoldable pub free : Rules → Call → Place → Bool
free R c (idle kept) = true
free R c (holds m) = late R c m

-- "an idle slot keeps its last source, 0 when fresh"
unfoldable pub source_at : Place → ℕ
source_at (idle kept) = kept
source_at (holds m) = m.first.heard.source_address

unfoldable pub free_of_source : Rules → Call → Place → Bool
free_of_source R c p = free R c p && eqb (source_at p) c.heard.source_address

-- "in-progress .. with this key not silent over 500"
unfoldable pub live_held : Rules → Call → Place → Bool
live_held R c (idle kept) = false
live_held R c (holds m) = R.same_key (key_of m.first.heard) (key_of c.heard) && not (late R c m)

-- "take the first slot in progress with this key ..; else the first free slot with this source ..; else the first free slot"
unfoldable pub taken_by : Rules → Call → List Place → Option ℕ
taken_by R c ps = or_else (first_at (key_held R c) ps) (or_else (first_at (free_of_source R c) ps) (first_at (free R c) ps))

-- the index is one above the number of continuations that the message has
unfoldable pub its_turn : Call → Message → Bool
its_turn c m = eqb (index_of c.heard) (length m.later + 1)

-- it "lacks a byte that the session needs": one of the next seven that are missing
unfoldable pub lacks : Call → Message → Bool
lacks c m = ltb c.heard.length (1 + min 7 (announced m - length (own_bytes m)))

-- the continuation that the message waits for
unfoldable pub awaited : Call → Message → Bool
awaited c m = its_turn c m && not (lacks c m)

-- the bytes of its own frames reach the announced size
unfoldable pub full : Message → Bool
full m = leb (announced m) (length (own_bytes m))

-- the place left idle by its message
unfoldable pub left : Message → Place
left m = idle m.first.heard.source_address

-- ---- one call

unfoldable pub nothing_moved : Deed → List Place → Told
nothing_moved d ps = record { deed = d; message = none; places = ps }

-- the message opens at place i, and one that stood there ends: restarted in time, or reclaimed late
unfoldable pub opens_in : Rules → ℕ → List Place → Call → ℕ → Told
opens_in R n ps c i = record { deed = opening_at (late R c) (get_or ps i (idle 0)); message = held_in (get_or ps i (idle 0)); places = set ps i (holds (new_message n c)) }

-- the message of place i: "Index not last index + 1: the slot is reset .. Otherwise copy ..; MessageComplete with reset when all is there"; one that lacks a byte
-- "breaks it, as one out of turn does"
unfoldable pub continues_in : List Place → Call → ℕ → Message → Told
continues_in ps c i m =
    pick (awaited c m)
    (pick (full (grown m c)) (record { deed = Delivered; message = some (grown m c); places = set ps i (left m) })
    (record { deed = Copied; message = some (grown m c); places = set ps i (holds (grown m c)) }))
    (record { deed = Broken; message = some m; places = set ps i (left m) })

-- what is made of a thing found, else t
unfoldable pub given : {A : Type 0} → Option A → Told → (A → Told) → Told
given none t f = t
given (some a) t f = f a

-- step 2, "PGN not listed"; step 3 at "Index 0": "0 or over 223", "Size 1 to 6: MessageComplete at once", "Otherwise take .. else Ignored, pool_exhausted";
-- step 4 at "Index 1 to 31": "Take the first ..", "None: a stray"; and the cut frames that are Rejected
unfoldable pub tell_one : Rules → ℕ → List Place → Call → Told
tell_one R n ps c =
    pick (listed c)
    (pick (is_empty c.heard) (nothing_moved BadFrame ps)
    (pick (eqb (index_of c.heard) 0)
    (pick (bad_first c.heard) (nothing_moved BadFrame ps)
    (pick (leb (size_of c.heard) 6) (record { deed = AtOnce; message = some (new_message n c); places = ps })
    (given (taken_by R c ps) (nothing_moved NoSlot ps) (opens_in R n ps c))))
    (given (first_at (live_held R c) ps) (nothing_moved Stray ps) (λ i. given (held_in (get_or ps i (idle 0))) (nothing_moved Stray ps) (continues_in ps c i)))))
    (nothing_moved Unlisted ps)

-- ---- the ledger

-- what the next call does, given what the ledger holds
unfoldable pub next_deed : Rules → Ledger → Call → Deed
next_deed R L c = (tell_one R (numbered L) L.places c).deed

-- of these calls, from idle places that keep these sources
unfoldable pub ledger_of : Rules → List ℕ → List Call → Ledger
ledger_of R kept cs = tells (tell_one R) (blank kept) cs

-- ---- what a call must say, by what it did

pub record Saying : Type 0 where
  pub kind : Kind
  pub payload : List ℕ
  pub length : ℕ

-- "other answers carry 223 zeros and length 0"
unfoldable pub briefly : Kind → Saying
briefly k = record { kind = k; payload = zeros; length = 0 }

-- "A complete message is its bytes, zeros up to 223, and its length": its own frames' bytes, cut at the announced size
unfoldable pub delivery : Option Message → Saying
delivery none = briefly MessageComplete
delivery (some m) = record { kind = MessageComplete; payload = padded (take (announced m) (own_bytes m)); length = announced m }

-- each deed calls for one name; where 01 says Ignored, document 02's No. 2 tells why
unfoldable pub kind_due : Deed → Kind
kind_due Unlisted = NotListed
kind_due BadFrame = Rejected
kind_due NoSlot = PoolFull
kind_due Stray = Lost
kind_due AtOnce = MessageComplete
kind_due Opening = FragmentConsumed
kind_due Restarting = FragmentConsumed
kind_due Reclaiming = FragmentConsumed
kind_due Copied = FragmentConsumed
kind_due Delivered = MessageComplete
kind_due Broken = Lost

-- it delivered a message, at once or from its place
abbrev pub is_delivery : Deed → Bool
is_delivery d = is_one_of (AtOnce ∷ Delivered ∷ []) d

unfoldable pub saying : Deed → Option Message → Saying
saying d m = pick (is_delivery d) (delivery m) (briefly (kind_due d))

unfoldable pub saying_due : Entry → Saying
saying_due e = saying e.deed e.message

-- a message is delivered, and its own frames did not send as many bytes as it announced: a byte of it was not sent
unfoldable pub unsent_in : Deed → Option Message → Bool
unsent_in d none = false
unsent_in d (some m) = is_delivery d && not (full m)

unfoldable pub unsent : Entry → Bool
unsent e = unsent_in e.deed e.message
