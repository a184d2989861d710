-- The rows that strict reassembly takes, by document 01's tests and document 02's No. 4 together.
use Rattle.std.specs.Prelude.{ℕ, ◌≤◌, ◌/◌, List, ◌≡◌, length}
use Rattle.oracle.specs.Strict.{BenchMessage, payloads_of}
use Rattle.round_trip.specs.Sent.{own_frames, under, split_all, AreSplit}
use Rattle.round_trip.specs.Wide.{NoneWide}
use Rattle.splitter.specs.declared.Frame.{Frame}

-- the row holds these messages, and the lent list and arena have room for them
pub record Accepts (fs : List Frame) (source pgn : ℕ) (list arena : List ℕ) (ms : List BenchMessage) : Type 0 where
  -- no frame's identifier is too wide, of whatever source and PGN
  pub narrow : NoneWide fs
  -- those of this source and PGN are the splitter's frames of the messages, one message after the other
  pub messages : AreSplit ms
  pub frames : (id : ℕ) → under id (own_frames source pgn fs) ≡ split_all id ms
  -- a message takes three numbers of the list
  pub listed : length ms ≤ length list / 3
  pub stored : length (payloads_of ms) ≤ length arena
