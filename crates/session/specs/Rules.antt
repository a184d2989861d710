-- What requests vary, as parameters: the pool's limit, the test for silence, the test for the key, the part that a PGN allows; document 01's own, and those of
-- each kind and mode.
use Rattle.std.specs.Prelude.{Bool, true, ◌&&◌, ◌||◌, ℕ, ◌-◌, eqb, ltb, leb}
use Rattle.base.specs.Pick.{pick}
use Rattle.can_id.specs.Layout.{pgn_pf}
use Rattle.session.specs.declared.Mode.{Mode}
use Rattle.session.specs.declared.Mode.TheVariants.{AsOriginal, SetBackIsSilence}
use Rattle.session.specs.declared.PoolKind.{PoolKind}
use Rattle.session.specs.declared.PoolKind.TheVariants.{Original, Addressed}

-- "The key is (source, PGN, sequence)."; document 02, No. 12: a kind "whose key has a fourth part: the destination, or none for PF 240 and above". None is 0, and
-- the destination d is d + 1; "in the old kind it is always none".
pub record Key : Type 0 where
  pub source : ℕ
  pub pgn : ℕ
  pub sequence : ℕ
  pub part : ℕ

pub record Rules : Type 0 where
  -- the most slots
  pub limit : ℕ
  -- silent over 500, by the reading now and the last time
  pub silent : ℕ → ℕ → Bool
  pub same_key : Key → Key → Bool
  -- of a message with this PGN: whether its key may have this part
  pub allowed : ℕ → ℕ → Bool

-- "A pool has 0 to 8 slots", and document 02's No. 7: "Raise the pool limit to 32"
abbrev pub pool_limit : ℕ
pool_limit = 32

-- "Silence is now minus last time, or 0 if now is earlier." Silent is "silent over 500". (Here a - b is 0 where b is larger.)
unfoldable pub silence : ℕ → ℕ → Bool
silence now last = ltb 500 (now - last)

-- document 02, No. 10: "a mode .. in which a slot also counts as silent over 500 .. if now is earlier than its last time"; the other is as the original
unfoldable pub silent_by : Mode → ℕ → ℕ → Bool
silent_by AsOriginal now last = silence now last
silent_by SetBackIsSilence now last = silence now last || ltb now last

-- by document 01's three parts
unfoldable pub three_equal : Key → Key → Bool
three_equal a b = eqb a.source b.source && eqb a.pgn b.pgn && eqb a.sequence b.sequence

-- and by the fourth
unfoldable pub keys_equal : Key → Key → Bool
keys_equal a b = three_equal a b && eqb a.part b.part

-- of the old kind none; of the new one "the destination", a byte, for a PF below 240, "or none for PF 240 and above"
unfoldable pub part_allowed : PoolKind → ℕ → ℕ → Bool
part_allowed Original pgn part = eqb part 0
part_allowed Addressed pgn part = pick (ltb (pgn_pf pgn) 240) (leb 1 part && leb part 256) (eqb part 0)

-- the rules of a pool of this kind in this mode: "Prove the shared steps once over the test for silence."
unfoldable pub rules_by : PoolKind → Mode → Rules
rules_by kind mode = record { limit = pool_limit; silent = silent_by mode; same_key = keys_equal; allowed = part_allowed kind }

-- those of a pool that is made with nothing said of kind and mode
unfoldable pub base : Rules
base = rules_by Original AsOriginal

-- ---- document 01's own, which are the original's: neither knows a fourth part

unfoldable pub any_part : ℕ → ℕ → Bool
any_part pgn part = true

unfoldable pub rules_without_part : Mode → Rules
rules_without_part mode = record { limit = pool_limit; silent = silent_by mode; same_key = three_equal; allowed = any_part }

unfoldable pub original : Rules
original = rules_without_part AsOriginal
