-- The rows that a batch must leave, by the ledger's newest entries: one for each frame that it took, the oldest of them first.
use Rattle.std.specs.Prelude.{List, [], ◌∷◌, ◌++◌, ◌≡◌, ℕ, zero, suc, take}
use Rattle.session.specs.Kinds.{kind_number}
use Rattle.batch.specs.Rows.{over}
use Rattle.ledger.specs.Ledger.{Saying}

-- what the newest n of these give, the oldest of them first
unfoldable pub newest_row : (Saying → List ℕ) → ℕ → List Saying → List ℕ
newest_row f zero said = []
newest_row f (suc n) [] = []
newest_row f (suc n) (a ∷ older) = newest_row f n older ++ f a

-- of an answer: the number of its kind, its length, and its message
unfoldable pub its_kind : Saying → List ℕ
its_kind a = kind_number a.kind ∷ []

unfoldable pub its_length : Saying → List ℕ
its_length a = a.length ∷ []

unfoldable pub its_message : Saying → List ℕ
its_message a = take a.length a.payload

-- the rows and the arena after a batch that took n frames, where these answers are due, the latest first: "the rest keeps its contents"
pub record RowsDue (n : ℕ) (due : List Saying) (kinds lengths arena kinds' lengths' arena' : List ℕ) : Type 0 where
  pub told : kinds' ≡ over kinds (newest_row its_kind n due)
  pub measured : lengths' ≡ over lengths (newest_row its_length n due)
  pub delivered : arena' ≡ over arena (newest_row its_message n due)
