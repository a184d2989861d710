-- `receiving::hear` meets its contract: what the form of the call hears is entered, and the call promises what its equation says. Assumes nothing.
use Rattle.assembler.proofs.Promised.{heard_taken, heard_refused}
use Rattle.assembler.proofs.Entries.{told_refused}
use Rattle.assembler.proofs.receiving.hear.Goals as goal

pub returns-in-Ok : goal.returns-in-Ok
returns-in-Ok g c = heard_taken _ _ _ _ _ _ c.heard.ensures _ c.in-Ok.is c.ENTRY.ensures c.receive_at.ensures

pub returns-in-Err-TooWide : goal.returns-in-Err-TooWide
returns-in-Err-TooWide g c = heard_refused _ _ _ _ _ _ c.heard.ensures _ c.in-Err-TooWide.is (told_refused c.refused.ensures)
