-- Document 02, No. 12: "in the old kind it is always none, and every old answer stays". No contract cites this file.
use Rattle.std.specs.Prelude.{Bool, true, false, not, ◌&&◌, List, [], ◌≡◌, ℕ, eqb, ltb}
use Rattle.base.specs.Answer.{refuses}
use Rattle.base.specs.Lists.{any}
use Rattle.can_id.specs.Layout.{pgn_pf}
use Rattle.session.specs.declared.Counters.{Counters}
use Rattle.session.specs.declared.Head.{Head}
use Rattle.session.specs.declared.Heard.{Heard}
use Rattle.session.specs.declared.Mode.{Mode}
use Rattle.session.specs.declared.PoolKind.TheVariants.{Original, Addressed}
use Rattle.session.specs.Rules.{rules_by, rules_without_part}
use Rattle.assembler.specs.declared.Pool.{Pool}
use Rattle.assembler.specs.declared.Received.{Received}
use Rattle.assembler.specs.Call.{Call, CallOk}
use Rattle.assembler.specs.Slots.{Slots, within, on_head}
use Rattle.assembler.specs.Step.{step}
use Rattle.assembler.specs.View.{slots_of, receive_of}
use Rattle.assembler.specs.Promises.{at_original, ReceivesHeard}

-- in progress, and its key has a part
unfoldable pub has_part : Head → Bool
has_part h = h.in_progress && not (eqb h.part 0)

-- in progress, with a PGN that goes to a destination
unfoldable pub is_focused : Head → Bool
is_focused h = h.in_progress && ltb (pgn_pf h.pgn) 240

-- some slot within the size
unfoldable pub any_head : (Head → Bool) → Slots → Bool
any_head t p = any (on_head t) (within p)

pub record OldKind (mode : Mode) : Type 0 where
  -- where no slot in progress has a part, and the frame has none, the steps of the old kind are those with a key of three parts, which look at no part
  pub steps_stay : (p : Slots) (k : Counters) (c : Call) → any_head has_part p ≡ false → c.heard.part ≡ 0 → step (rules_by Original mode) p k c ≡ step (rules_without_part mode) p k c
  -- ... and no slot gets one
  pub none_given : (p : Slots) (k : Counters) (c : Call) → CallOk c → any_head has_part p ≡ false → c.heard.part ≡ 0 → any_head has_part (step (rules_by Original mode) p k c).pool ≡ false
  -- where one has a part, refusal 1, and nothing moves
  pub refused : (p : Slots) (k : Counters) (c : Call) → any_head has_part p ≡ true → step (rules_by Original mode) p k c ≡ record { reply = refuses 1 []; pool = p; counters = k }
  -- so the old kind's entry answers as it did
  pub answers_stay : (pgns : List ℕ) (f : Heard) (p : Pool) (k : Counters) {r : Received} → p.kind ≡ Original → p.mode ≡ mode → any_head has_part (slots_of p) ≡ false → f.part ≡ 0
      → ReceivesHeard pgns (at_original p f) p k r → r ≡ receive_of (rules_without_part mode) pgns f p k
  -- and where no slot in progress has a PGN that goes to a destination, the steps of the new kind are those of the old
  pub new_as_old : (p : Slots) (k : Counters) (c : Call) → any_head is_focused p ≡ false → step (rules_by Addressed mode) p k c ≡ step (rules_by Original mode) p k c
