-- No split, no strict reassembly and no transmit check is refused by 3. Assumes nothing.
use Prim.Native.Nat.{ℕ, ◌≤◌}
use mathlib.Core.List.{List}
use mathlib.Core.Option.{Option, none, some}
use native.Mathlib.Omega.{arith}
use Rattle.base.specs.Answer.{Answer, gives, refuses, counted}
use Rattle.base.proofs.Cases.{pick_all}
use Rattle.splitter.specs.Split.{split_of, of_split}
use Rattle.splitter.specs.declared.Frame.{Frame}
use Rattle.std.specs.Prelude.{Result, Ok, Err}
use Rattle.splitter.specs.declared.SplitError.{SplitError}
use Rattle.splitter.specs.declared.SplitError.TheVariants.{BadSplit, TooWide, Short}
use Rattle.oracle.specs.Numbers.{fault_number, of_reassembled, of_checked}
use Rattle.oracle.specs.Strict.{wide_first, delivered_to}
use Rattle.oracle.specs.Check.{check_tx_of}
use Rattle.oracle.proofs.Codes.{messages_coded, room_coded, transmission_coded}
use Rattle.oracle.specs.declared.Fault.{Fault}
use Rattle.oracle.specs.declared.Fault.TheVariants.{Length, Restarted, Announced, Stray, Order, Padding, TooWide as WideFrame}
use Rattle.oracle.specs.declared.ReassembleError.{ReassembleError}
use Rattle.oracle.specs.declared.ReassembleError.TheVariants.{Refused, Incomplete, NoRoom}
use Rattle.oracle.specs.declared.CheckError.{CheckError}
use Rattle.oracle.specs.declared.CheckError.TheVariants.{NoCount, Over, NoClaim, Faulty, Open, Count, Size, Hours, Pattern, Sequence}
use Rattle.no_three.specs.NoThree.{NotThree}
use Rattle.no_three.proofs.Sending.{Other}

pub counted_other : {A : Type 0} (a : Answer (List A)) → Other a → Other (counted a)
unfolding counted
counted_other (gives l) h = omega arith
counted_other (refuses k vs) h = h

-- ---- the splitter
pub split_other : (id sequence : ℕ) (payload : List ℕ) (room : ℕ) → Other (split_of id sequence payload room)
unfolding split_of
split_other id sequence payload room =
    pick_all Other _ (omega arith)
    (pick_all Other _ (omega arith)
    (pick_all Other _ (omega arith)
    (pick_all Other _ (omega arith)
    (pick_all Other _ (omega arith) (omega arith)))))

-- ---- strict reassembly: 29, and else 20 to 27
frame_other : (k : ℕ) → 20 ≤ k → k ≤ 26 → NotThree k
frame_other k lo hi = omega arith

wide_other : {A : Type 0} (x : Option ℕ) (rest : Answer A) → Other rest → Other (wide_first x rest)
unfolding wide_first
wide_other none rest h = h
wide_other (some n) rest h = omega arith

pub delivered_other : (list arena : List ℕ) (frames : List Frame) (source pgn : ℕ) → Other (counted (delivered_to list arena frames source pgn))
unfolding delivered_to
delivered_other list arena frames source pgn =
    counted_other _ (wide_other _ _ (room_coded NotThree (omega arith) (omega arith) _ _ _ (messages_coded NotThree (omega arith) frame_other source pgn 0 none frames)))

-- ---- the transmit check: 30 to 32, 29, and else 20 to 26 and 33 to 37
pub check_other : (frames : List Frame) (source expected hours : ℕ) → Other (check_tx_of frames source expected hours)
unfolding check_tx_of
check_other frames source expected hours =
    pick_all Other _ (omega arith)
    (pick_all Other _ (omega arith)
    (wide_other _ _ (transmission_coded NotThree (omega arith) frame_other (omega arith) (λ k lo hi. omega arith) frames source expected hours)))

-- ---- any answer of the code
pub split_case_other : (s : Result ℕ SplitError) → Other (of_split s)
unfolding of_split
split_case_other (Ok n) = omega arith
split_case_other (Err BadSplit) = omega arith
split_case_other (Err TooWide) = omega arith
split_case_other (Err Short) = omega arith

fault_other : (f : Fault) → NotThree (fault_number f)
unfolding fault_number
fault_other (Length n len) = omega arith
fault_other (Restarted n) = omega arith
fault_other (Announced n size) = omega arith
fault_other (Stray n) = omega arith
fault_other (Order n sequence index wanted next) = omega arith
fault_other (Padding n byte) = omega arith
fault_other (WideFrame n) = omega arith

pub reassembled_case_other : (r : Result ℕ ReassembleError) → Other (of_reassembled r)
unfolding of_reassembled
reassembled_case_other (Ok n) = omega arith
reassembled_case_other (Err (Refused f)) = fault_other f
reassembled_case_other (Err (Incomplete size)) = omega arith
reassembled_case_other (Err NoRoom) = omega arith

pub checked_case_other : (c : Result (Unit {0}) CheckError) → Other (of_checked c)
unfolding of_checked
checked_case_other (Ok u) = omega arith
checked_case_other (Err NoCount) = omega arith
checked_case_other (Err Over) = omega arith
checked_case_other (Err NoClaim) = omega arith
checked_case_other (Err (Faulty f)) = fault_other f
checked_case_other (Err (Open size)) = omega arith
checked_case_other (Err (Count found)) = omega arith
checked_case_other (Err (Size i)) = omega arith
checked_case_other (Err (Hours i)) = omega arith
checked_case_other (Err (Pattern i)) = omega arith
checked_case_other (Err (Sequence i)) = omega arith
