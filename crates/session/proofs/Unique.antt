-- Two outcomes that satisfy a call's contract are equal. Assumes nothing.
use Prim.Native.Nat.{ℕ, ◌<◌}
use mathlib.Core.Bool.{Bool}
use mathlib.Core.Path.{◌≡◌}
use Rattle.base.proofs.Cases.{determined}
use Rattle.session.specs.declared.Head.{Head}
use Rattle.session.specs.declared.Counters.{Counters}
use Rattle.session.specs.declared.Mode.{Mode}
use Rattle.session.specs.declared.PoolKind.{PoolKind}
use Rattle.session.specs.Rules.{pool_limit, silent_by, rules_by}
use Rattle.session.specs.Heads.{fresh_head}
use Rattle.session.specs.Counting.{Mark, raised}
use Rattle.session.specs.declared.Kind.{Kind}
use Rattle.session.specs.Kinds.{kind_number}
use Rattle.session.specs.declared.Heard.{Heard}
use Rattle.session.specs.declared.Found.{Found}
use Rattle.session.specs.inner.Search.{nothing_found, looked, place_of, within_limit}
use Rattle.session.specs.declared.Plan.{Plan}
use Rattle.session.specs.inner.Plan.{plan_of}

-- ---- fresh heads and counters

pub count_unique : (counters : Counters) (mark : Mark) (r s : Counters) → r ≡ raised mark counters → s ≡ raised mark counters → r ≡ s
count_unique counters mark r s = determined

pub fresh_head_unique : (r s : Head) → r ≡ fresh_head → s ≡ fresh_head → r ≡ s
fresh_head_unique r s = determined

-- ---- what a frame finds

pub nothing_found_unique : (bad : Bool) (r s : Found) → r ≡ nothing_found bad → s ≡ nothing_found bad → r ≡ s
nothing_found_unique bad r s = determined

pub look_unique : (kind : PoolKind) (mode : Mode) (h : Head) (t : Found) (i : ℕ) (heard : Heard) (r s : Found) → r ≡ looked (rules_by kind mode) heard i h t → s ≡ looked (rules_by kind mode) heard i h t → r ≡ s
look_unique kind mode h t i heard r s = determined

pub place_for_unique : (t : Found) (heard : Heard) (r s : ℕ) → r ≡ place_of heard t → s ≡ place_of heard t → r ≡ s
place_for_unique t heard r s = determined

pub within_limit_unique : (i r s : ℕ) → (r ≡ within_limit i) × (r < pool_limit) → (s ≡ within_limit i) × (s < pool_limit) → r ≡ s
within_limit_unique i r s p q = determined p.0 q.0

-- ---- what it makes of it

pub decide_unique : (mode : Mode) (bad listed found : Bool) (h : Head) (heard : Heard) (r s : Plan) → r ≡ plan_of bad listed found (silent_by mode) heard h → s ≡ plan_of bad listed found (silent_by mode) heard h → r ≡ s
decide_unique mode bad listed found h heard r s = determined

-- ---- what the caller is told of it

pub number_unique : (kind : Kind) (r s : ℕ) → r ≡ kind_number kind → s ≡ kind_number kind → r ≡ s
number_unique kind r s = determined
