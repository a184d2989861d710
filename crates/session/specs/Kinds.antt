-- The numbers by which calls tell their answers, in one list: 1 to 99 are the refusals' own, and 0 is no refusal.
-- 100 is a builder's End, 102 FragmentConsumed, 103 MessageComplete, 104 NotListed, 105 Rejected, 106 PoolFull and 107 Lost; 101 is given no more.
use Rattle.std.specs.Prelude.{ℕ}
use Rattle.session.specs.declared.Kind.{Kind}
use Rattle.session.specs.declared.Kind.TheVariants.{ImpossiblePool, TooWide, NotListed, Rejected, PoolFull, Lost, FragmentConsumed, MessageComplete}

abbrev pub end_number : ℕ
end_number = 100

-- an impossible pool is refusal 1, and an identifier that is too wide 8
unfoldable pub kind_number : Kind → ℕ
kind_number ImpossiblePool = 1
kind_number TooWide = 8
kind_number NotListed = 104
kind_number Rejected = 105
kind_number PoolFull = 106
kind_number Lost = 107
kind_number FragmentConsumed = 102
kind_number MessageComplete = 103
