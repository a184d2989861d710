-- Two outcomes that meet a public call's promise are equal: its answer and all that is lent to it. Assumes nothing.
use Rattle.std.proofs.Common.{◌≡◌, ℕ, ◌-◌, eqb, List, [], ◌∷◌, get_or, refl}
use Rattle.std.specs.Prelude.{Result, Ok, Err}
use Rattle.base.proofs.Cases.{determined, determined_by}
use Rattle.splitter.specs.Frames.{count_in}
use Rattle.base.specs.Answer.{Answer, gives, refuses}
use Rattle.base.specs.Pick.{pick}
use Rattle.splitter.specs.Split.{of_split, SplitsInto, SplitsIntoSlices}
use Rattle.splitter.specs.declared.Frame.{Frame}
use Rattle.splitter.specs.declared.SplitError.{SplitError}
use Rattle.splitter.specs.declared.SplitError.TheVariants.{BadSplit, TooWide, Short}

-- ---- how many frames separate slices have

pub frame_count_unique : (ids bytes lens r s : ℕ) → r ≡ count_in ids bytes lens → s ≡ count_in ids bytes lens → r ≡ s
frame_count_unique ids bytes lens r s = determined

-- ---- the splitter

-- the answer that has these numbers
back_split : Answer ℕ → Result ℕ SplitError
back_split (gives n) = Ok n
back_split (refuses k vs) = Err (pick (eqb k 8) TooWide (get_or (Short ∷ BadSplit ∷ []) (k - 27) Short))

split_back : (r : Result ℕ SplitError) → back_split (of_split r) ≡ r
unfolding of_split back_split pick
split_back (Ok n) = refl
split_back (Err BadSplit) = refl
split_back (Err TooWide) = refl
split_back (Err Short) = refl

-- `fast_packet_frames`: an answer and a row
pub fast_packet_frames_unique : (id sequence : ℕ) (payload : List ℕ) (row : List Frame) {r s : Result ℕ SplitError} {l m : List Frame}
    → SplitsInto id sequence payload row r l → SplitsInto id sequence payload row s m → (r ≡ s) × (l ≡ m)
fast_packet_frames_unique id sequence payload row p q = (determined_by of_split back_split split_back p.answer q.answer, determined p.row_after q.row_after)

-- `fast_packet_rows`: an answer and three slices
pub fast_packet_rows_unique : (id sequence : ℕ) (payload ids bytes lens : List ℕ) {r s : Result ℕ SplitError} {i j b c l m : List ℕ}
    → SplitsIntoSlices id sequence payload ids bytes lens r i b l → SplitsIntoSlices id sequence payload ids bytes lens s j c m → (r ≡ s) × (i ≡ j) × (b ≡ c) × (l ≡ m)
fast_packet_rows_unique id sequence payload ids bytes lens p q =
    (determined_by of_split back_split split_back p.answer q.answer, determined p.ids_after q.ids_after, determined p.bytes_after q.bytes_after, determined p.lens_after q.lens_after)

-- of a local that is lent: an answer and a row, as of any other
pub fast_packet_frames_into_unique : (id sequence : ℕ) (payload : List ℕ) (row : List Frame) {r s : Result ℕ SplitError} {l m : List Frame}
    → SplitsInto id sequence payload row r l → SplitsInto id sequence payload row s m → (r ≡ s) × (l ≡ m)
fast_packet_frames_into_unique = fast_packet_frames_unique
