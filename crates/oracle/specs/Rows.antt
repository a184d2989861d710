-- The row of frames that separate number slices stand for.
use Rattle.std.specs.Prelude.{ℕ, zero, suc, ◌+◌, ◌*◌, List, [], ◌∷◌, length, get_or, drop, replicate}
use Rattle.splitter.specs.Frames.{eight, count_in}
use Rattle.splitter.specs.declared.Frame.{Frame}

-- where a row has no frame there are zeros in its place
abbrev pub no_frame : Frame
no_frame = record { id = 0; «data» = replicate 8 0; len = 0 }

-- frame i has the identifier at i, the eight bytes from 8 × i on, and the length at i
unfoldable pub frame_in : List ℕ → List ℕ → List ℕ → ℕ → Frame
frame_in ids bytes lens i = record { id = get_or ids i 0; «data» = eight (drop (8 * i) bytes); len = get_or lens i 0 }

-- n of them, from frame i on
abbrev pub frames_in : List ℕ → List ℕ → List ℕ → ℕ → ℕ → List Frame
frames_in ids bytes lens i zero = []
frames_in ids bytes lens i (suc n) = frame_in ids bytes lens i ∷ frames_in ids bytes lens (i + 1) n

-- as many as the shortest slice has
unfoldable pub row_in : List ℕ → List ℕ → List ℕ → List Frame
row_in ids bytes lens = frames_in ids bytes lens 0 (count_in (length ids) (length bytes) (length lens))
