-- What the code knows after some frames of a row: no bytes, only counts. Nobody needs to believe this: `proofs/Bridge` shows that it tells what specs/Strict says.
use Rattle.std.specs.Prelude.{ℕ, ◌+◌, ◌-◌, ◌*◌, ◌/◌, ◌≤◌, Bool, true, false, List, [], ◌∷◌, ◌++◌, get_or, take, drop, eqb, ltb, Some, None, Result, Ok, Err}
use Rattle.base.specs.Pick.{pick}
use Rattle.splitter.specs.Frames.{is_wide, frame_bytes}
use Rattle.oracle.specs.Ids.{is_other}
use Rattle.oracle.specs.Strict.{bench_index, bench_sequence}
use Rattle.oracle.specs.inner.Frames.{Standing, fault_at}
use Rattle.splitter.specs.declared.Frame.{Frame}
use Rattle.oracle.specs.declared.Scan.{Scan}
use Rattle.oracle.specs.declared.ReassembleError.{ReassembleError}
use Rattle.oracle.specs.declared.ReassembleError.TheVariants.{Refused, Incomplete, NoRoom}
use Rattle.oracle.specs.declared.Fault.{Fault}
use Rattle.oracle.specs.declared.Fault.TheVariants.{Length, Restarted, Announced, Stray, Order, Padding, TooWide}

-- how many of its bytes stand before the message's
unfoldable pub header_bytes : List ℕ → ℕ
header_bytes bs = pick (eqb (bench_index bs) 0) 2 1

-- how many bytes the message lacks before this frame
unfoldable pub missing_of : Scan → List ℕ → ℕ
missing_of s bs = pick (eqb (bench_index bs) 0) (get_or bs 1 0) s.missing

-- why the frame is refused, if it is
abbrev pub fault_of : Scan → List ℕ → ℕ → Standing
fault_of s bs len = fault_at s.n s.missing s.sequence s.index bs len

-- ---- what is known after a frame
-- of another source or PGN, or after a refusal: n counts it
abbrev pub skipped : Scan → Scan
skipped s = record { source = s.source; pgn = s.pgn; n = s.n + 1; fault = s.fault; sequence = s.sequence; announced = s.announced; index = s.index; missing = s.missing; messages = s.messages; total = s.total }

-- refused: n counts it too
abbrev pub refused_at : Scan → Standing → Scan
refused_at s f = record { source = s.source; pgn = s.pgn; n = s.n + 1; fault = f; sequence = s.sequence; announced = s.announced; index = s.index; missing = s.missing; messages = s.messages; total = s.total }

-- taken, with what is known of the message from it on
abbrev pub left_with : Scan → List ℕ → ℕ → ℕ → ℕ → ℕ → Scan
left_with s bs announced missing messages total = record { source = s.source; pgn = s.pgn; n = s.n + 1; fault = s.fault; sequence = bench_sequence bs; announced = announced; index = bench_index bs + 1; missing = missing; messages = messages; total = total }

-- the message is open while bytes are missing, and whole when none is
unfoldable pub taken : Scan → List ℕ → Scan
taken s bs =
    let m : ℕ = missing_of s bs in
    let room : ℕ = 8 - header_bytes bs in
    left_with s bs (pick (eqb (bench_index bs) 0) (get_or bs 1 0) s.announced) (m - room) (pick (ltb room m) s.messages (s.messages + 1)) (s.total + pick (ltb room m) room m)

abbrev pub is_faulty : Standing → Bool
is_faulty None = false
is_faulty (Some f) = true

-- a frame's identifier was too wide
abbrev pub is_width : Fault → Bool
is_width (Length n len) = false
is_width (Restarted n) = false
is_width (Announced n size) = false
is_width (Stray n) = false
is_width (Order n sequence index wanted next) = false
is_width (Padding n byte) = false
is_width (TooWide n) = true

abbrev pub is_over : Standing → Bool
is_over None = false
is_over (Some f) = is_width f

-- the first identifier that is too wide stands over all others, and else the first refusal stands
unfoldable pub step_on : Scan → ℕ → List ℕ → ℕ → Scan
step_on s id bs len =
    pick (is_over s.fault) s
    (pick (is_wide id) (refused_at s (Some (TooWide s.n)))
    (pick (is_faulty s.fault) (skipped s)
    (pick (is_other s.source s.pgn id) (skipped s)
    (pick (is_faulty (fault_of s bs len)) (refused_at s (fault_of s bs len))
    (taken s bs)))))

abbrev pub scan_frame : Scan → Frame → Scan
scan_frame s f = step_on s f.id (frame_bytes f) f.len

abbrev pub scan_of : Scan → List Frame → Scan
scan_of s [] = s
scan_of s (f ∷ fs) = scan_of (scan_frame s f) fs

abbrev pub start_of : ℕ → ℕ → Scan
start_of source pgn = record { source = source; pgn = pgn; n = 0; fault = None; sequence = 0; announced = 0; index = 0; missing = 0; messages = 0; total = 0 }

-- what i frames can have counted
pub record Counted (i : ℕ) (s : Scan) : Type 0 where
  pub frames : s.n ≤ i
  pub whole : s.messages ≤ i
  pub bytes : s.total ≤ 7 * i

-- no row that can be lent has so many frames: the counts fit
abbrev pub Small : Scan → Type 0
Small s = Counted 0x2000_0000_0000_0000 s

-- ---- what is delivered
-- the bytes of its message that a frame adds: as many of those it carries as the total grows by
unfoldable pub added_of : Scan → Frame → List ℕ
added_of s f = take ((scan_frame s f).total - s.total) (drop (header_bytes (frame_bytes f)) (frame_bytes f))

-- a message that a frame makes whole: sequence, start and length
unfoldable pub row_of : Scan → Frame → List ℕ
row_of s f =
    let t : Scan = scan_frame s f in
    pick (ltb s.messages t.messages) (t.sequence ∷ (t.total - t.announced) ∷ t.announced ∷ []) []

-- what is laid along a row: the payloads end to end, and the messages' rows
abbrev pub bytes_laid : Scan → List Frame → List ℕ
bytes_laid s [] = []
bytes_laid s (f ∷ fs) = added_of s f ++ bytes_laid (scan_frame s f) fs

abbrev pub rows_laid : Scan → List Frame → List ℕ
rows_laid s [] = []
rows_laid s (f ∷ fs) = row_of s f ++ rows_laid (scan_frame s f) fs

-- ---- the answer, from the counts after the last frame
-- of a row of which no frame is refused
abbrev pub passed_with : ℕ → ℕ → ℕ → ℕ → ℕ → ℕ → Result ℕ ReassembleError
passed_with missing announced messages total numbers space =
    pick (ltb 0 missing) (Err (Incomplete announced))
    (pick (ltb (numbers / 3) messages) (Err NoRoom)
    (pick (ltb space total) (Err NoRoom)
    (Ok messages)))

-- a refusal of a frame stands
unfoldable pub verdict_at : Standing → ℕ → ℕ → ℕ → ℕ → ℕ → ℕ → Result ℕ ReassembleError
verdict_at (Some why) missing announced messages total numbers space = Err (Refused why)
verdict_at None missing announced messages total numbers space = passed_with missing announced messages total numbers space

abbrev pub verdict_of : Scan → ℕ → ℕ → Result ℕ ReassembleError
verdict_of s numbers space = verdict_at s.fault s.missing s.announced s.messages s.total numbers space
