-- The splitter's answer as its code tells it. Nobody needs to believe this: `proofs/SplitLaws` shows that it tells what specs/Split says.
use Rattle.std.specs.Prelude.{ℕ, Result, Ok, Err, ◌==◌, nat_lt}
use Rattle.base.specs.Pick.{pick}
use Rattle.splitter.specs.Frames.{is_wide}
use Rattle.splitter.specs.Bytes.{count_of}
use Rattle.splitter.specs.declared.SplitError.{SplitError}
use Rattle.splitter.specs.declared.SplitError.TheVariants.{BadSplit, TooWide, Short}

-- from the identifier, the sequence and the sizes
unfoldable pub told_of : ℕ → ℕ → ℕ → ℕ → Result ℕ SplitError
told_of id sequence size room =
    pick (size == 0) (Err BadSplit)
    (pick (nat_lt 223 size) (Err BadSplit)
    (pick (nat_lt 7 sequence) (Err BadSplit)
    (pick (is_wide id) (Err TooWide)
    (pick (nat_lt room (count_of size)) (Err Short)
    (Ok (count_of size))))))
