-- Which frame of a row document 02's No. 4 speaks of: "the row's first such frame", whose identifier is 2^29 or more.
use Rattle.std.specs.Prelude.{ℕ, ◌<◌, ◌≤◌, List, length, get_or}
use Rattle.splitter.specs.Split.{ids_of}
use Rattle.splitter.specs.declared.Frame.{Frame}

-- frame n's identifier
abbrev pub id_at : List Frame → ℕ → ℕ
id_at fs n = get_or (ids_of fs) n 0

-- frame n is the first whose identifier is too wide
pub record IsFirstWide (fs : List Frame) (n : ℕ) : Type 0 where
  pub there : n < length fs
  pub wide : 0x2000_0000 ≤ id_at fs n
  pub before : (k : ℕ) → k < n → id_at fs k < 0x2000_0000

-- and no frame's is
abbrev pub NoneWide : List Frame → Type 0
NoneWide fs = (k : ℕ) → k < length fs → id_at fs k < 0x2000_0000
