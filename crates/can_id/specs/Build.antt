-- Building an identifier: the builder, its setters, and what `build` answers in document 01's numbers.
use Rattle.std.specs.Prelude.{ℕ, ◌/◌, ◌%◌, List, [], ◌∷◌, ◌||◌, Option, Some, None, Result, Ok, Err, ltb, eqb}
use Rattle.base.specs.Answer.{Answer, gives, refuses}
use Rattle.base.specs.Pick.{pick}
use Rattle.can_id.specs.Layout.{id_of, pgn_pf}
use Rattle.can_id.specs.declared.CanIdBuilder.{CanIdBuilder}
use Rattle.can_id.specs.declared.CanId.{CanId}
use Rattle.can_id.specs.declared.CanIdBuildError.{CanIdBuildError}
use Rattle.can_id.specs.declared.CanIdBuildError.TheVariants.{InvalidData, InvalidForBroadcast, InvalidForFocusedMessage, PsFocusMessageMustBeNull, EmptyPayload}

-- ---- an answer in document 01's numbers
-- "2 InvalidData, .. 4, 5, 6 InvalidForBroadcast, InvalidForFocusedMessage, PsFocusMessageMustBeNull, 7 EmptyPayload". Of 3, InvalidDestination, document 02
-- says in No. 11: "drop the case; the other numbers don't move".
abbrev pub error_number : CanIdBuildError → ℕ
error_number InvalidData = 2
error_number InvalidForBroadcast = 4
error_number (InvalidForFocusedMessage pf) = 5
error_number PsFocusMessageMustBeNull = 6
error_number EmptyPayload = 7

-- "5: PF"; the others carry nothing
abbrev pub error_carries : CanIdBuildError → List ℕ
error_carries InvalidData = []
error_carries InvalidForBroadcast = []
error_carries (InvalidForFocusedMessage pf) = pf ∷ []
error_carries PsFocusMessageMustBeNull = []
error_carries EmptyPayload = []

abbrev pub of_built : Result CanId CanIdBuildError → Answer ℕ
of_built (Ok id) = gives id.0
of_built (Err e) = refuses (error_number e) (error_carries e)

-- ---- the builder: "The default priority 6", and no destination yet
abbrev pub new_id_builder : ℕ → ℕ → CanIdBuilder
new_id_builder pgn source = record { priority = 6; pgn = pgn; source_address = source; destination = None }

-- "Each setter takes the builder and hands it back with one field set; priority and sequence setters keep the low 3 bits."
abbrev pub id_with_priority : CanIdBuilder → ℕ → CanIdBuilder
id_with_priority b p = record { priority = p % 8; pgn = b.pgn; source_address = b.source_address; destination = b.destination }

abbrev pub id_with_destination : CanIdBuilder → ℕ → CanIdBuilder
id_with_destination b d = record { priority = b.priority; pgn = b.pgn; source_address = b.source_address; destination = Some d }

-- ---- building
-- the PF of a builder's PGN
abbrev pub pf_in : CanIdBuilder → ℕ
pf_in b = pgn_pf b.pgn

-- the identifier of a priority, a PGN's upper ten bits, a PS and a source
abbrev pub id_with : ℕ → ℕ → ℕ → ℕ → ℕ
id_with priority pgn ps source = id_of priority (pgn / 0x2_0000 % 2) (pgn / 0x1_0000 % 2) (pgn_pf pgn) ps source

-- of a builder's parts, at this PS
abbrev pub id_from : CanIdBuilder → ℕ → ℕ
id_from b ps = id_with b.priority b.pgn ps b.source_address

-- "No destination and PF below 240, refusal 4. Destination and PF 240 or more, refusal 5 with PF. Destination and PGN low byte not 0, refusal 6."
abbrev pub build_to : Option ℕ → CanIdBuilder → Answer ℕ
build_to None b = pick (ltb (pf_in b) 240) (refuses 4 []) (gives (id_from b (b.pgn % 256)))
build_to (Some d) b =
    pick (ltb (pf_in b) 240) (pick (eqb (b.pgn % 256) 0) (gives (id_from b d)) (refuses 6 [])) (refuses 5 (pf_in b ∷ []))

-- "Building, in this order: PGN above 0x3FFFF or priority above 7, refusal 2", then by the destination
unfoldable pub build_of : CanIdBuilder → Answer ℕ
build_of b = pick (ltb 0x3_FFFF b.pgn || ltb 7 b.priority) (refuses 2 []) (build_to b.destination b)
