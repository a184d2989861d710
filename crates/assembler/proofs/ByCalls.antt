-- The pools that the calls make are possible, so refusal 1 never comes from one of them. Assumes nothing.
use Prim.Native.Nat.{ℕ, zero, suc, ◌≤◌}
use mathlib.Core.Path.{◌≡◌, refl, sym, ap, subst, ◌∙◌}
use mathlib.Core.Bool.{Bool, true, false}
use mathlib.Core.List.{List, []}
use lib.ListN.{take, drop, replicate}
use lib.Dec.{ltb}
use native.Mathlib.Omega.{arith}
use borrow.Author.Tests.{ltb-false, le-ltb}
use Rattle.base.specs.Answer.{Answer, gives, refuses}
use Rattle.base.specs.Pick.{pick}
use Rattle.base.specs.Lists.{any}
use Rattle.session.specs.declared.Counters.{Counters}
use Rattle.session.specs.declared.Heard.{Heard}
use Rattle.session.specs.declared.Mode.{Mode}
use Rattle.session.specs.declared.Mode.TheVariants.{AsOriginal}
use Rattle.session.specs.declared.PoolKind.{PoolKind}
use Rattle.session.specs.declared.PoolKind.TheVariants.{Original}
use Rattle.session.specs.Rules.{Rules, rules_by, pool_limit}
use Rattle.session.specs.Heads.{fresh_head, impossible_head}
use Rattle.assembler.specs.declared.Pool.{Pool}
use Rattle.assembler.specs.declared.Processed.{Processed}
use Rattle.assembler.specs.declared.Received.{Received}
use Rattle.assembler.specs.Call.{CallOk, part_fits}
use Rattle.assembler.specs.Slots.{within, on_head, impossible}
use Rattle.assembler.specs.Step.{event_of, said_of, outcome, step_if, step}
use Rattle.assembler.specs.Making.{pool_bytes, fresh_pool_in, fresh_pool, size_made, pool_made}
use Rattle.assembler.specs.View.{slots_from, slots_of, pool_of, shown, reply_of, receive_of}
use Rattle.assembler.specs.Promises.{rules_of, answer_to}
use Rattle.assembler.specs.Possible.{FrameOk, hears, refused, ByCalls, made, by_default, received, processed}
use Rattle.assembler.proofs.Replies.{replied}
use Rattle.assembler.proofs.Entries.{answer_steps, answer_refused}
use Rattle.assembler.proofs.Promised.{received_by, processed_by}
use Rattle.assembler.proofs.Views.{Sized, sized_view, view_forth, Made, made_of}
use Rattle.assembler.proofs.Keeps.{keeps}

-- the slots of a pool: of 223 bytes each, and none impossible
record Good (p : Pool) : Type 0 where
  possible : impossible (rules_of p) (slots_of p) ≡ false
  sized : Sized (slots_of p).slots

idle_fine : (R : Rules) (n m : ℕ) (bs : List ℕ) → any (on_head (impossible_head R)) (take n (slots_from (replicate m fresh_head) bs)) ≡ false
unfolding any slots_from impossible_head fresh_head
idle_fine R zero m bs = refl
idle_fine R (suc n) zero bs = refl
idle_fine R (suc n) (suc m) bs = idle_fine R n m (drop 223 bs)

fresh_good : (kind : PoolKind) (mode : Mode) (n : ℕ) → n ≤ pool_limit → Good (fresh_pool_in kind mode n)
unfolding fresh_pool_in slots_of
fresh_good kind mode n small =
    record {
      possible = unfold impossible rules_of rules_by in rw (le-ltb pool_limit n small) (idle_fine (rules_by kind mode) n pool_limit (replicate pool_bytes 0));
      sized = sized_view (replicate pool_limit fresh_head) (replicate pool_bytes 0) refl;
    }

made_good : (kind : PoolKind) (mode : Mode) (b : Bool) (n : ℕ) → ltb pool_limit n ≡ b → Good (pool_made kind mode (pick b (refuses 1 []) (gives n)))
unfolding pick pool_made
made_good kind mode true n e = fresh_good kind mode 0 (omega arith)
made_good kind mode false n e = fresh_good kind mode n (ltb-false pool_limit n e)

pub same_rules : (p q : Pool) → Made p.kind p.mode q → rules_of q ≡ rules_of p
unfolding rules_of
same_rules p q m = rw (m.of_kind, m.in_mode)

module _ (pgns : List ℕ) (p : Pool) (k : Counters) (good : Good p) where
  stepped_good : (f : Heard) → CallOk (record { pgns = pgns; heard = f }) → part_fits (rules_of p) (record { pgns = pgns; heard = f }) ≡ true → Good (receive_of (rules_of p) pgns f p k).pool
  unfolding receive_of shown
  stepped_good f ok fits =
      let after = (step (rules_of p) (slots_of p) k (record { pgns = pgns; heard = f })).pool in
      let kept = keeps (rules_of p) (slots_of p) k (record { pgns = pgns; heard = f }) ok fits good.possible in
      let forth = view_forth p.kind p.mode after (kept.sized good.sized) in
      record {
        possible = rw (same_rules p (pool_of p.kind p.mode after) (made_of p.kind p.mode after), forth) kept.possible;
        sized = rw forth (kept.sized good.sized);
      }

  left_good : {a : Answer Heard} → FrameOk (rules_of p) pgns a → Good (answer_to pgns a p k).pool
  left_good (hears {f} ok fits) = subst (λ (r : Received). Good r.pool) (sym (answer_steps pgns p k f)) (stepped_good f ok fits)
  left_good (refused {n} {carried}) = subst (λ (r : Received). Good r.pool) (sym (answer_refused pgns p k n carried)) good

by_calls_good : {p : Pool} → ByCalls p → Good p
unfolding size_made fresh_pool
by_calls_good (made kind mode size) = made_good kind mode (ltb pool_limit size) size refl
by_calls_good by_default = fresh_good Original AsOriginal 4 (omega arith)
by_calls_good (received {p} {pgns} {a} {k} ok h g) = subst Good (ap (λ (r : Received). r.pool) (sym (received_by pgns a p k h))) (left_good pgns p k (by_calls_good g) ok)
by_calls_good (processed {p} {pgns} {a} {before = k} ok h g) = subst Good (ap (λ (r : Processed). r.pool) (sym (processed_by pgns a p k h).0)) (left_good pgns p k (by_calls_good g) ok)

pub never_impossible : {p : Pool} → ByCalls p → impossible (rules_of p) (slots_of p) ≡ false
never_impossible h = (by_calls_good h).possible

-- so every answer says what happened: refusal 1 never comes from a pool that the calls made
pub never_refused : {p : Pool} → ByCalls p → (pgns : List ℕ) (f : Heard) (k : Counters)
    → reply_of (receive_of (rules_of p) pgns f p k) ≡ gives (said_of f (within (slots_of p)) (event_of (rules_of p) (within (slots_of p)) (record { pgns = pgns; heard = f })))
never_refused {p} h pgns f k = replied (rules_of p) pgns f p k ∙ (unfold step in rw (never_impossible h) (unfold step_if outcome in refl))
