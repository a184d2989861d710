-- An empty pool shows idle places that keep its sources. The pools that `Pool::new` makes are empty.
-- Assumes nothing.
use mathlib.Core.Bool.{Bool, true, false}
use mathlib.Core.List.{List, [], ◌∷◌, map}
use mathlib.Core.Path.{◌≡◌, refl}
use Prim.Native.Nat.{ℕ, zero, suc, ◌+◌, ◌*◌, ◌≤◌}
use native.Mathlib.Omega.{arith}
use lib.ListN.{length, take, drop, replicate, length-replicate, length-drop}
use lib.Seq.{length-take-le}
use lib.Dec.{ltb}
use borrow.Author.Tests.{ltb-false}
use Rattle.base.specs.Answer.{gives, refuses}
use Rattle.base.specs.Pick.{pick}
use Rattle.base.specs.Lists.{total}
use Rattle.base.proofs.Paired.{All2, nil, cons}
use Rattle.session.specs.declared.Head.{Head}
use Rattle.session.specs.declared.Mode.{Mode}
use Rattle.session.specs.declared.PoolKind.{PoolKind}
use Rattle.session.specs.Rules.{Rules, pool_limit}
use Rattle.session.specs.Heads.{fresh_head}
use Rattle.assembler.specs.declared.Pool.{Pool}
use Rattle.assembler.specs.Slots.{fresh_slot, fresh_slots}
use Rattle.assembler.specs.Making.{pool_bytes, fresh_pool_in, size_made, pool_made}
use Rattle.assembler.specs.View.{slots_from, slots_of}
use Rattle.assembler.proofs.Views.{Sized, sized_view, slots_long}
use Rattle.ledger.specs.Ledger.{idle, as_number, how_many, blank}
use Rattle.ledger.specs.Demand3.{heads_in_progress}
use Rattle.ledger.specs.Runs.{Empty, kept_source, sources_of}
use Rattle.ledger.proofs.Shows.{Shows}
use Rattle.ledger.proofs.Run.{Follows, begun, follows_begun}

none_busy : (b : Bool) (n : ℕ) → as_number b + n ≡ 0 → b ≡ false
unfolding as_number
none_busy true n e = absurd (omega arith)
none_busy false n e = refl

idle_shows : (R : Rules) (n : ℕ) (hs : List Head) (bs : List ℕ) → heads_in_progress (take n hs) ≡ 0 → length bs ≡ length hs * 223 → All2 (Shows R) (map idle (map kept_source (take n hs))) (take n (slots_from hs bs))
unfolding slots_from heads_in_progress how_many total kept_source
idle_shows R zero hs bs e l = nil
idle_shows R (suc n) [] bs e l = nil
idle_shows R (suc n) (h ∷ hs) bs e l =
    cons {a = idle h.source_address} (record { busy = none_busy h.in_progress _ e; source = refl; room = length-take-le 223 bs (omega arith) })
    (idle_shows R n hs (drop 223 bs) (omega (arith, e)) (simp length-drop (omega arith)))

pub empty_follows : (R : Rules) (p : Pool) → Empty p → p.size ≤ R.limit → Follows R (begun (slots_of p)) (blank (sources_of p))
unfolding slots_of sources_of
empty_follows R p e h =
    follows_begun R (slots_of p) (sources_of p) h (omega (arith, slots_long p.heads p.bytes, e.heads, e.size)) (idle_shows R p.size p.heads p.bytes e.idle (omega (arith, e.heads, e.bytes)))

pub empty_sized : (p : Pool) → Empty p → Sized (slots_of p).slots
unfolding slots_of
empty_sized p e = sized_view p.heads p.bytes (omega (arith, e.heads, e.bytes))

-- ---- fresh pools

all_idle : (n m : ℕ) → heads_in_progress (take n (replicate m fresh_head)) ≡ 0
unfolding heads_in_progress how_many total fresh_head as_number
all_idle zero m = refl
all_idle (suc n) zero = refl
all_idle (suc n) (suc m) = omega (arith, all_idle n m)

pub fresh_empty : (kind : PoolKind) (mode : Mode) (n : ℕ) → n ≤ pool_limit → Empty (fresh_pool_in kind mode n)
unfolding fresh_pool_in
fresh_empty kind mode n h = record { size = h; idle = all_idle n pool_limit; heads = length-replicate pool_limit fresh_head; bytes = length-replicate {A = ℕ} pool_bytes 0 }

made_by : (kind : PoolKind) (mode : Mode) (b : Bool) (n : ℕ) → ltb pool_limit n ≡ b → Empty (pool_made kind mode (pick b (refuses 1 []) (gives n)))
unfolding pool_made pick
made_by kind mode true n e = fresh_empty kind mode 0 (omega arith)
made_by kind mode false n e = fresh_empty kind mode n (ltb-false pool_limit n e)

-- whatever kind, mode and size is asked for
pub made_empty : (kind : PoolKind) (mode : Mode) (n : ℕ) → Empty (pool_made kind mode (size_made n))
unfolding size_made
made_empty kind mode n = made_by kind mode (ltb pool_limit n) n refl

-- ---- fresh slots, at every limit

fresh_shows : (R : Rules) (n m : ℕ) → n ≤ m → All2 (Shows R) (map idle (replicate n 0)) (take n (replicate m fresh_slot))
unfolding fresh_slot fresh_head
fresh_shows R zero m h = nil
fresh_shows R (suc n) zero h = absurd (omega arith)
fresh_shows R (suc n) (suc m) h = cons {a = idle 0} (record { busy = refl; source = refl; room = length-replicate {A = ℕ} 223 0 }) (fresh_shows R n m (omega arith))

pub fresh_follows : (R : Rules) (n : ℕ) → n ≤ R.limit → Follows R (begun (fresh_slots R n)) (blank (replicate n 0))
unfolding fresh_slots
fresh_follows R n h = follows_begun R (fresh_slots R n) (replicate n 0) h (omega (arith, length-replicate R.limit fresh_slot)) (fresh_shows R n R.limit h)
