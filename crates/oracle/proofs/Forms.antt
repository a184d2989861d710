-- What `reassemble_row` and `check_tx_row` promise is, at each form of a row, their promise of the row that the form lends: a slice of frame records itself,
-- and of separate slices what they stand for. Assumes nothing.
use Prim.Native.Nat.{ℕ}
use mathlib.Core.List.{List}
use mathlib.Core.Path.{◌≡◌, refl}
use Rattle.std.specs.Borrow.{Bor}
use Rattle.std.specs.Prelude.{Result}
use Rattle.splitter.specs.declared.Frame.{Frame}
use Rattle.oracle.specs.declared.ReassembleError.{ReassembleError}
use Rattle.oracle.specs.declared.CheckError.{CheckError}
use Rattle.oracle.specs.declared.slice_rows.SliceRow.{SliceRow}
use Rattle.oracle.specs.contracts.slice_rows.RefSliceFrameFrameRow.TheImpl as records
use Rattle.oracle.specs.contracts.slice_rows.SliceRowFrameRow.TheImpl as slices
use Rattle.oracle.specs.Rows.{row_in}
use Rattle.oracle.specs.Strict.{Reassembles}
use Rattle.oracle.specs.Check.{ChecksTx}

-- ---- the frames of each form

pub records_frames : (frames : Bor (List Frame)) → records.ghosts.frames frames ≡ frames.now
records_frames frames = refl

pub slices_frames : (s : SliceRow) → slices.ghosts.frames s ≡ row_in s.ids.now s.bytes.now s.lens.now
slices_frames s = refl

-- ---- so strict reassembly promises

module _ (source pgn : ℕ) (list arena : List ℕ) (r : Result ℕ ReassembleError) (list' arena' : List ℕ) where
  pub reassembles_records : (frames : Bor (List Frame)) → Reassembles (records.ghosts.frames frames) source pgn list arena r list' arena' → Reassembles frames.now source pgn list arena r list' arena'
  reassembles_records frames h = h

  pub reassembles_slices : (s : SliceRow) → Reassembles (slices.ghosts.frames s) source pgn list arena r list' arena' → Reassembles (row_in s.ids.now s.bytes.now s.lens.now) source pgn list arena r list' arena'
  reassembles_slices s h = h

-- ---- and the transmit check

module _ (source expected base : ℕ) (r : Result (Unit {0}) CheckError) where
  pub checks_records : (frames : Bor (List Frame)) → ChecksTx (records.ghosts.frames frames) source expected base r → ChecksTx frames.now source expected base r
  checks_records frames h = h

  pub checks_slices : (s : SliceRow) → ChecksTx (slices.ghosts.frames s) source expected base r → ChecksTx (row_in s.ids.now s.bytes.now s.lens.now) source expected base r
  checks_slices s h = h
