-- The parts of an identifier, as `CanId::read` gives them and as a builder has them. They are the same four.
use Rattle.can_id.specs.declared.CanIdBuilder.{CanIdBuilder}
use Rattle.can_id.specs.declared.CanIdParts.{CanIdParts}

-- the builder that has what was read
abbrev pub builder_of : CanIdParts → CanIdBuilder
builder_of p = record { priority = p.priority; pgn = p.pgn; source_address = p.source_address; destination = p.destination }

-- what a builder has
abbrev pub parts_in : CanIdBuilder → CanIdParts
parts_in b = record { priority = b.priority; pgn = b.pgn; source_address = b.source_address; destination = b.destination }
