-- One frame, as the code judges it. Nobody needs to believe this: `proofs/Bridge` shows that it tells what specs/Strict says.
use Rattle.std.specs.Prelude.{ℕ, ◌+◌, ◌/◌, ◌%◌, List, get_or, drop, eqb, ltb, Option, Some, None}
use Rattle.base.specs.Pick.{pick}
use Rattle.oracle.specs.Strict.{odd_of}
use Rattle.oracle.specs.declared.Fault.TheVariants.{Length, Restarted, Announced, Stray, Order, Padding}
use Rattle.oracle.specs.declared.Fault.{Fault}

-- why a frame or a row is refused, if it is
abbrev pub Standing : Type 0
Standing = Option Fault

-- ---- why it is refused, if it is: the tests in the document's order, of what is known of the open message by numbers
-- "those after it must all be 0xFF (25, first bad byte)"
abbrev pub padding_at : ℕ → ℕ → Standing
padding_at n odd = pick (eqb odd 255) None (Some (Padding n odd))

-- "index 0 while open (21); announced outside 1..223 (22)": a message is open while bytes of it are missing
abbrev pub first_then : ℕ → ℕ → ℕ → Standing → Standing
first_then n missing size rest =
    pick (ltb 0 missing) (Some (Restarted n))
    (pick (eqb size 0) (Some (Announced n size))
    (pick (ltb 223 size) (Some (Announced n size))
    rest))

-- "continuation without open (23); wrong sequence or index (24)", which carries both as found and both as expected
abbrev pub later_then : ℕ → ℕ → ℕ → ℕ → ℕ → ℕ → Standing → Standing
later_then n missing wanted next sequence index rest =
    let wrong : Standing = Some (Order n sequence index wanted next) in
    pick (eqb missing 0) (Some (Stray n))
    (pick (eqb sequence wanted) (pick (eqb index next) rest wrong) wrong)

abbrev pub fault_then : ℕ → ℕ → ℕ → ℕ → ℕ → ℕ → Standing → Standing
fault_then n missing wanted next first second rest =
    pick (eqb (first % 32) 0) (first_then n missing second rest) (later_then n missing wanted next (first / 32) (first % 32) rest)

-- where the message's bytes end in the frame: a first frame has two bytes before them and announces how many there are; a continuation has one, and the
-- message lacks `missing`
unfoldable pub message_end : ℕ → ℕ → ℕ → ℕ
message_end missing first second = pick (eqb (first % 32) 0) (2 + second) (1 + missing)

-- "length not 8 (20)", and then the others; padding comes last
unfoldable pub fault_at : ℕ → ℕ → ℕ → ℕ → List ℕ → ℕ → Standing
fault_at n missing wanted next bs len =
    pick (eqb len 8)
    (fault_then n missing wanted next (get_or bs 0 0) (get_or bs 1 0) (padding_at n (odd_of (drop (message_end missing (get_or bs 0 0) (get_or bs 1 0)) bs))))
    (Some (Length n len))
