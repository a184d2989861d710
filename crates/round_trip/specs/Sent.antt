-- What the bench's two theorems speak of: the frames of one source and PGN in a row, and the frames that the splitter makes of messages.
use Rattle.std.specs.Prelude.{ℕ, ◌<◌, ◌≤◌, List, [], ◌∷◌, ◌++◌, length, get_or}
use Rattle.base.specs.Pick.{pick}
use Rattle.splitter.specs.Frames.{frame_bytes}
use Rattle.oracle.specs.Ids.{is_other}
use Rattle.oracle.specs.Strict.{BenchMessage}
use Rattle.splitter.specs.Split.{split_frames}
use Rattle.splitter.specs.declared.Frame.{Frame}

-- the frames of a row that strict reassembly does not skip, in order
unfoldable pub own_frames : ℕ → ℕ → List Frame → List Frame
own_frames source pgn [] = []
own_frames source pgn (f ∷ fs) = pick (is_other source pgn f.id) (own_frames source pgn fs) (f ∷ own_frames source pgn fs)

-- the same bytes and lengths under one identifier
unfoldable pub under : ℕ → List Frame → List Frame
under id [] = []
under id (f ∷ fs) = record { id = id; «data» = frame_bytes f; len = f.len } ∷ under id fs

-- the splitter's frames of some messages, one message after the other
unfoldable pub split_all : ℕ → List BenchMessage → List Frame
split_all id [] = []
split_all id (m ∷ ms) = split_frames id m.sequence m.payload ++ split_all id ms

-- each byte of a row is one
abbrev pub AreBytes : List Frame → Type 0
AreBytes [] = Unit {0}
AreBytes (f ∷ fs) = ((i : ℕ) → get_or f.«data» i 0 < 256) × AreBytes fs

-- messages that the splitter takes
abbrev pub AreSplit : List BenchMessage → Type 0
AreSplit [] = Unit {0}
AreSplit (m ∷ ms) = (m.sequence ≤ 7) × (1 ≤ length m.payload) × (length m.payload ≤ 223) × AreSplit ms
