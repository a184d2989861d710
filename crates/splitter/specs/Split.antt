-- The splitter, as document 01 has it under "The bench": a payload is laid out by step 6 of "Building frames", index from 0.
use Rattle.std.specs.Prelude.{◌≡◌, ℕ, zero, suc, List, [], ◌∷◌, ◌++◌, length, ◌==◌, nat_lt, Result, Ok, Err}
use Rattle.std.proofs.lemmas.List.Edits.{sets}
use Rattle.base.specs.Answer.{Answer, gives, refuses, counted}
use Rattle.base.specs.Pick.{pick}
use Rattle.splitter.specs.Frames.{is_wide, frame_bytes, count_in}
use Rattle.splitter.specs.declared.Frame.{Frame}
use Rattle.splitter.specs.Bytes.{split_frame, count_of}
use Rattle.splitter.specs.declared.SplitError.{SplitError}
use Rattle.splitter.specs.declared.SplitError.TheVariants.{BadSplit, TooWide, Short}

-- n frames from an index on
abbrev pub split_frames_from : ℕ → ℕ → List ℕ → ℕ → ℕ → List Frame
split_frames_from id sequence payload index zero = []
split_frames_from id sequence payload index (suc n) = split_frame id sequence payload index ∷ split_frames_from id sequence payload (suc index) n

-- all frames of a payload
abbrev pub split_frames : ℕ → ℕ → List ℕ → List Frame
split_frames id sequence payload = split_frames_from id sequence payload 0 (count_of (length payload))

-- "refusal 28 if the payload is not 1..223 bytes or the sequence is over 7; 27 if the row is too short"; else the frames. Document 02, No. 4, puts between them:
-- "the splitter after 28 .. 8 too wide"
unfoldable pub split_of : ℕ → ℕ → List ℕ → ℕ → Answer (List Frame)
split_of id sequence payload room =
    pick (length payload == 0) (refuses 28 [])
    (pick (nat_lt 223 (length payload)) (refuses 28 [])
    (pick (nat_lt 7 sequence) (refuses 28 [])
    (pick (is_wide id) (refuses 8 [])
    (pick (nat_lt room (count_of (length payload))) (refuses 27 [])
    (gives (split_frames id sequence payload))))))

-- this paper's number and values for each answer: "27, 28: no room; bad split: nothing", and "8 too wide"
unfoldable pub of_split : Result ℕ SplitError → Answer ℕ
of_split (Ok n) = gives n
of_split (Err BadSplit) = refuses 28 []
of_split (Err TooWide) = refuses 8 []
of_split (Err Short) = refuses 27 []

-- "rows past them keep their contents"; a refusal writes nothing
unfoldable pub row_with : Answer (List Frame) → List Frame → List Frame
row_with (gives fs) row = sets row 0 fs
row_with (refuses k vs) row = row

-- what `fast_packet_frames` promises: "Its answer is the number of frames", and what the lent row becomes
pub record SplitsInto (id sequence : ℕ) (payload : List ℕ) (row : List Frame) (r : Result ℕ SplitError) (row' : List Frame) : Type 0 where
  pub answer : of_split r ≡ counted (split_of id sequence payload (length row))
  pub row_after : row' ≡ row_with (split_of id sequence payload (length row)) row

-- ---- the same in separate slices: identifiers, eight bytes a frame, lengths
unfoldable pub ids_of : List Frame → List ℕ
ids_of [] = []
ids_of (f ∷ fs) = f.id ∷ ids_of fs

unfoldable pub bytes_all : List Frame → List ℕ
bytes_all [] = []
bytes_all (f ∷ fs) = frame_bytes f ++ bytes_all fs

unfoldable pub lens_of : List Frame → List ℕ
lens_of [] = []
lens_of (f ∷ fs) = f.len ∷ lens_of fs

unfoldable pub ids_with : Answer (List Frame) → List ℕ → List ℕ
ids_with (gives fs) ids = sets ids 0 (ids_of fs)
ids_with (refuses k vs) ids = ids

unfoldable pub bytes_with : Answer (List Frame) → List ℕ → List ℕ
bytes_with (gives fs) bytes = sets bytes 0 (bytes_all fs)
bytes_with (refuses k vs) bytes = bytes

unfoldable pub lens_with : Answer (List Frame) → List ℕ → List ℕ
lens_with (gives fs) lens = sets lens 0 (lens_of fs)
lens_with (refuses k vs) lens = lens

-- the frames, where the slices have room for them: the row is as long as the shortest allows
abbrev pub split_in : ℕ → ℕ → List ℕ → List ℕ → List ℕ → List ℕ → Answer (List Frame)
split_in id sequence payload ids bytes lens = split_of id sequence payload (count_in (length ids) (length bytes) (length lens))

-- what `fast_packet_rows` promises: the answer, and what each lent slice becomes
pub record SplitsIntoSlices (id sequence : ℕ) (payload ids bytes lens : List ℕ) (r : Result ℕ SplitError) (ids' bytes' lens' : List ℕ) : Type 0 where
  pub answer : of_split r ≡ counted (split_in id sequence payload ids bytes lens)
  pub ids_after : ids' ≡ ids_with (split_in id sequence payload ids bytes lens) ids
  pub bytes_after : bytes' ≡ bytes_with (split_in id sequence payload ids bytes lens) bytes
  pub lens_after : lens' ≡ lens_with (split_in id sequence payload ids bytes lens) lens
