-- A frame's identifier and bytes, and how many frames separate number slices have.
use Rattle.std.specs.Prelude.{ℕ, ◌/◌, min, Bool, List, [], ◌∷◌, nat_le, slice_index}
use Rattle.splitter.specs.declared.Frame.{Frame}

-- document 02, No. 4: "an identifier of 2^29 or more" is too wide
unfoldable pub is_wide : ℕ → Bool
is_wide id = nat_le 0x2000_0000 id

-- the eight bytes of a frame
unfoldable pub eight : List ℕ → List ℕ
eight bs = slice_index bs 0 ∷ slice_index bs 1 ∷ slice_index bs 2 ∷ slice_index bs 3 ∷ slice_index bs 4 ∷ slice_index bs 5 ∷ slice_index bs 6 ∷ slice_index bs 7 ∷ []

abbrev pub frame_bytes : Frame → List ℕ
frame_bytes f = eight f.«data»

-- ---- separate slices: identifiers, eight bytes a frame, lengths
-- how many frames the slices have: the shortest decides
abbrev pub count_in : ℕ → ℕ → ℕ → ℕ
count_in ids bytes lens = min ids (min (bytes / 8) lens)
