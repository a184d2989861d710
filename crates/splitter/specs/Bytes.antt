-- One frame of a payload, as document 01 has it under "The bench": by step 6 of "Building frames", index from 0.
use Rattle.std.specs.Prelude.{ℕ, ◌+◌, ◌-◌, ◌*◌, ◌/◌, ◌%◌, List, ◌∷◌, length, drop, ◌==◌}
use Rattle.base.specs.Pick.{pick}
use Rattle.base.specs.Lists.{fill}
use Rattle.splitter.specs.declared.Frame.{Frame}

-- "byte 0 is (sequence modulo 8) times 32 plus (index modulo 32). If no byte was sent, byte 1 is the length and up to 6 bytes follow;
-- else up to 7 follow byte 0. The rest is 0xFF": 7 × index - 1 bytes were sent
unfoldable pub split_bytes : ℕ → List ℕ → ℕ → List ℕ
split_bytes sequence payload index =
    (sequence % 8 * 32 + index % 32) ∷
    pick (index == 0) (length payload ∷ fill 6 payload) (fill 7 (drop (7 * index - 1) payload))

-- "and the length is 8"
unfoldable pub split_frame : ℕ → ℕ → List ℕ → ℕ → Frame
split_frame id sequence payload index = record { id = id; «data» = split_bytes sequence payload index; len = 8 }

-- the first frame has up to 6 bytes, and each other up to 7
abbrev pub count_of : ℕ → ℕ
count_of size = size / 7 + 1
