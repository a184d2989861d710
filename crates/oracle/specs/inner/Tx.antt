-- What the transmit check's code knows after some frames. Nobody needs to believe this: `proofs/BridgeTx` shows that it tells what specs/Check says.
use Rattle.std.specs.Prelude.{ℕ, ◌+◌, ◌-◌, ◌%◌, Bool, true, false, List, [], ◌∷◌, take, replicate, eqb, ltb, Some, None, Result, Ok, Err}
use Rattle.std.proofs.lemmas.List.Edits.{sets}
use Rattle.base.specs.Pick.{pick}
use Rattle.oracle.specs.Ids.{is_other}
use Rattle.oracle.specs.Check.{hours_of, off_from}
use Rattle.oracle.specs.declared.bench_ids.Claim.{Claim}
use Rattle.oracle.specs.declared.bench_ids.Claim.TheVariants.{Awaited, Made, Missed}
use Rattle.oracle.specs.inner.Scan.{scan_frame, added_of, start_of, is_faulty, is_over}
use Rattle.splitter.specs.declared.Frame.{Frame}
use Rattle.oracle.specs.declared.Scan.{Scan}
use Rattle.oracle.specs.declared.Tx.{Tx}
use Rattle.oracle.specs.declared.CheckError.{CheckError}
use Rattle.oracle.specs.declared.CheckError.TheVariants.{NoCount, Over, NoClaim, Faulty, Open, Count, Size, Hours, Pattern, Sequence}
use Rattle.oracle.specs.inner.Frames.{Standing}

-- what the check comes to
abbrev pub Checked : Type 0
Checked = Result (Unit {0}) CheckError

abbrev pub is_bad : Checked → Bool
is_bad (Ok u) = false
is_bad (Err e) = true

abbrev pub is_unclaimed : Claim → Bool
is_unclaimed Awaited = true
is_unclaimed Made = false
is_unclaimed Missed = true

-- ---- the claim after one frame more: the first of a claim and a message decides, and what is decided stays
unfoldable pub claim_after : Claim → ℕ → ℕ → ℕ → Claim
claim_after Awaited source id len =
    pick (is_other source 127489 id)
    (pick (is_other source 60928 id) Awaited
    (pick (eqb len 8) Made Awaited))
    Missed
claim_after Made source id len = Made
claim_after Missed source id len = Missed

-- ---- what is wrong with message i, whose first bytes are `bs`, after one of the sequence `last`; message 0 has none before it
unfoldable pub message_of : ℕ → ℕ → ℕ → ℕ → ℕ → List ℕ → Checked
message_of base i last sequence size bs =
    pick (eqb size 26)
    (pick (eqb (hours_of bs) (base + i))
    (pick (off_from 0 (take 26 bs)) (Err (Pattern i))
    (pick (eqb i 0) (Ok tt)
    (pick (eqb sequence ((last % 8 + 1) % 8)) (Ok tt)
    (Err (Sequence i)))))
    (Err (Hours i)))
    (Err (Size i))

-- ---- one frame
-- the bytes of the open message, collected
unfoldable pub buffer_of : Tx → Frame → List ℕ
buffer_of t f =
    let s : Scan = t.scan in
    let a : Scan = scan_frame s f in
    sets t.buffer (a.announced - a.missing - (a.total - s.total)) (added_of s f)

-- the first bad message stands; `a` is what strict reassembly knows after the frame, and `bs` what is collected
unfoldable pub bad_of : Tx → Scan → List ℕ → Checked
bad_of t a bs =
    pick (is_bad t.bad) t.bad
    (pick (ltb t.scan.messages a.messages) (message_of t.base t.scan.messages t.last a.sequence a.announced bs)
    (Ok tt))

unfoldable pub last_of : Tx → Scan → ℕ
last_of t a = pick (ltb t.scan.messages a.messages) a.sequence t.last

unfoldable pub tx_of : Tx → Frame → Tx
tx_of t f = record {
  scan = scan_frame t.scan f;
  claim = claim_after t.claim t.scan.source f.id f.len;
  base = t.base;
  last = last_of t (scan_frame t.scan f);
  bad = bad_of t (scan_frame t.scan f) (buffer_of t f);
  buffer = buffer_of t f;
}

abbrev pub tx_all : Tx → List Frame → Tx
tx_all t [] = t
tx_all t (f ∷ fs) = tx_all (tx_of t f) fs

abbrev pub tx_start : ℕ → ℕ → Tx
tx_start source base = record { scan = start_of source 127489; claim = Awaited; base = base; last = 0; bad = Ok tt; buffer = replicate 223 0 }

-- ---- the answer
unfoldable pub over_of : ℕ → ℕ → Bool
over_of base expected = ltb 4294967295 (base + (expected - 1))

-- the refusal of a row that was refused; no other is asked for it
abbrev pub faulty_of : Standing → Checked
faulty_of None = Ok tt
faulty_of (Some f) = Err (Faulty f)

unfoldable pub ran_of : Tx → ℕ → Checked
ran_of t expected =
    pick (is_faulty t.scan.fault) (faulty_of t.scan.fault)
    (pick (ltb 0 t.scan.missing) (Err (Open t.scan.announced))
    (pick (eqb t.scan.messages expected) t.bad
    (Err (Count t.scan.messages))))

unfoldable pub checked_of : Tx → ℕ → Checked
checked_of t expected =
    pick (eqb expected 0) (Err NoCount)
    (pick (over_of t.base expected) (Err Over)
    (pick (is_over t.scan.fault) (faulty_of t.scan.fault)
    (pick (is_unclaimed t.claim) (Err NoClaim)
    (ran_of t expected))))
