-- One frame of eight bytes, whichever it is: two bytes and 0xFF, where the payload from `sent` on takes the places from `at` on. Nobody needs to believe
-- this definition: only the code's own contracts cite it.
use Rattle.std.specs.Prelude.{ℕ, ◌+◌, ◌-◌, min, List, ◌∷◌, ◌++◌, length, take, drop, replicate}
use Rattle.base.specs.Lists.{fill}
use Rattle.builder.specs.declared.frame_bytes.Laid.{Laid}

-- the row that a frame starts from
abbrev pub headed : ℕ → ℕ → List ℕ
headed head size = head ∷ size ∷ replicate 6 255

unfoldable pub laid_at : ℕ → ℕ → ℕ → ℕ → ℕ → List ℕ → Laid
laid_at head size at index sent p =
    record {
      «data» = take at (headed head size) ++ fill (8 - at) (drop sent p);
      len = 8;
      frame_index = index;
      bytes_sent = sent + min (8 - at) (length p - sent);
    }
