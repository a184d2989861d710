-- Document 02, No. 2: the names tell what the counters tell. No contract cites this file.
use Rattle.std.specs.Prelude.{List, ◌≡◌, ℕ, zero, suc, eqb}
use Rattle.base.specs.Pick.{pick}
use Rattle.book.specs.Book.{how_many}
use Rattle.session.specs.declared.Counters.{Counters}
use Rattle.session.specs.declared.Kind.{Kind}
use Rattle.session.specs.declared.Kind.TheVariants.{NotListed, Rejected, PoolFull, Lost, FragmentConsumed}
use Rattle.session.specs.Counting.{raise}
use Rattle.session.specs.Kinds.{kind_number}

-- raised by an answer of this name, and by no other
unfoldable pub raised_by : Kind → Kind → ℕ → ℕ
raised_by name kind n = pick (eqb (kind_number name) (kind_number kind)) (raise n) n

-- after a call with this answer the counter of its name has gone up by one, or stood at its end, and the others of the four are as they were; the fifth goes up
-- with FragmentConsumed alone
pub record TellsAlike (kind : Kind) (before after : Counters) : Type 0 where
  pub unknown : after.unknown_pgn ≡ raised_by NotListed kind before.unknown_pgn
  pub rejected : after.rejected_frames ≡ raised_by Rejected kind before.rejected_frames
  pub exhausted : after.pool_exhausted ≡ raised_by PoolFull kind before.pool_exhausted
  pub lost : after.lost_fragments ≡ raised_by Lost kind before.lost_fragments
  pub expired : (kind ≡ FragmentConsumed → ⊥) → after.expired_sessions ≡ before.expired_sessions

-- ---- and of a batch, by its row of kinds

-- how many entries have this name
unfoldable pub entries : Kind → List ℕ → ℕ
entries name row = how_many (eqb (kind_number name)) row

-- a counter that has gone up so many times
unfoldable pub raised_times : ℕ → ℕ → ℕ
raised_times zero n = n
raised_times (suc k) n = raise (raised_times k n)

-- the counter of each of the four names has gone up once for each of its entries
pub record RowTellsAlike (row : List ℕ) (before after : Counters) : Type 0 where
  pub unknown : after.unknown_pgn ≡ raised_times (entries NotListed row) before.unknown_pgn
  pub rejected : after.rejected_frames ≡ raised_times (entries Rejected row) before.rejected_frames
  pub exhausted : after.pool_exhausted ≡ raised_times (entries PoolFull row) before.pool_exhausted
  pub lost : after.lost_fragments ≡ raised_times (entries Lost row) before.lost_fragments
