-- What theorems beside demand 3 speak of: any assembler by value, with what demands 2 and 3 ask of it; and the steps over slots.
use Rattle.std.specs.Prelude.{true, false, List, [], ◌∷◌, map, ◌≡◌, ℕ, ◌≤◌, length}
use Rattle.base.specs.Answer.{gives}
use Rattle.session.specs.declared.Heard.{Heard}
use Rattle.session.specs.declared.Counters.{Counters}
use Rattle.session.specs.declared.Kind.{Kind}
use Rattle.session.specs.declared.Mode.TheVariants.{AsOriginal}
use Rattle.session.specs.declared.PoolKind.TheVariants.{Original}
use Rattle.session.specs.Rules.{Rules, original}
use Rattle.assembler.specs.declared.Pool.{Pool}
use Rattle.assembler.specs.declared.Received.{Received}
use Rattle.assembler.specs.Call.{Call, CallOk, part_fits}
use Rattle.assembler.specs.Slots.{within}
use Rattle.assembler.specs.OldKind.{has_part, any_head}
use Rattle.assembler.specs.Step.{Reply}
use Rattle.assembler.specs.Runs.{Assembler, World, fresh_world, call_all}
use Rattle.assembler.specs.View.{slots_of, head_of, reply_kind, reply_payload, reply_length, reply_of}
use Rattle.ledger.specs.Ledger.{Saying, ledger_of}
use Rattle.ledger.specs.Demand2.{Ignored, original_of, needed_cut, read_reply, as_original}
use Rattle.ledger.specs.Demand3.{Seen, Closes}
use Rattle.ledger.specs.Runs.{State, start, seen_in, after_call}

-- an assembler: what it gives for a list, a frame, a pool and counters
abbrev pub Receive : Type 0
Receive = List ℕ → Heard → Pool → Counters → Received

-- ---- demand 2, and the assemblers that document 01 says must not pass it: "an assembler that always says Ignored, or one fixed answer (demand 2, on a six-byte
-- message); one that never stores a fragment (2, on seven bytes)"

-- its answer, with the four names of document 02's No. 2 read as Ignored, its pool and its counters are those of document 01's steps, at every pool of the
-- original's kind, in the original's mode and with no part in a slot in progress, and every frame without a part of which no byte that is needed was cut
unfoldable pub Demand2 : Receive → Type 0
Demand2 f = (pgns : List ℕ) (heard : Heard) (pool : Pool) (counters : Counters) → pool.kind ≡ Original → pool.mode ≡ AsOriginal → any_head has_part (slots_of pool) ≡ false → heard.part ≡ 0
    → needed_cut original (within (slots_of pool)) (record { pgns = pgns; heard = heard }) ≡ false → as_original (f pgns heard pool counters) ≡ original_of original pgns heard pool counters

-- it says Ignored, by whichever of the four names, whatever it hears
unfoldable pub AlwaysIgnores : Receive → Type 0
AlwaysIgnores f = (pgns : List ℕ) (heard : Heard) (pool : Pool) (counters : Counters) → read_reply (reply_of (f pgns heard pool counters)) ≡ gives Ignored

-- it gives one kind of answer, whatever it hears, with any payload
unfoldable pub OneKind : Kind → Receive → Type 0
OneKind k f = (pgns : List ℕ) (heard : Heard) (pool : Pool) (counters : Counters) → (f pgns heard pool counters).kind ≡ k

-- it leaves the bytes of the pool as they are, whatever it hears
unfoldable pub NeverStores : Receive → Type 0
NeverStores f = (pgns : List ℕ) (heard : Heard) (pool : Pool) (counters : Counters) → (f pgns heard pool counters).pool.bytes ≡ pool.bytes

-- ---- demand 3

-- its calls one after the other, each given the pool and counters that the last one left
unfoldable pub receives : Receive → State → List Call → State
receives f z [] = z
receives f z (c ∷ cs) = receives f (after_call z (f c.pgns c.heard z.pool z.counters)) cs

unfoldable pub seen_after : Receive → Pool → List Call → Seen
seen_after f p cs = seen_in (receives f (start p) cs)

-- each call is given eight bytes, and a part that its PGN allows
pub data AllOk (R : Rules) : List Call → Type 0 where
  none : AllOk R []
  more : {c : Call} {cs : List Call} → CallOk c → part_fits R c ≡ true → AllOk R cs → AllOk R (c ∷ cs)

-- what is seen after each run, from slots that are idle and keep these sources, agrees with the ledger
unfoldable pub Demand3 : Rules → List ℕ → (List Call → Seen) → Type 0
Demand3 R kept seen = (cs : List Call) → AllOk R cs → length cs ≤ 4294967295 → Closes R (seen cs) (ledger_of R kept cs)

-- ---- the steps over slots, at any limit

unfoldable pub reply_says : Reply → Saying
reply_says r = record { kind = reply_kind r; payload = reply_payload r; length = reply_length r }

unfoldable pub seen_of : World → Seen
seen_of w = record { said = map reply_says w.replies; heads = map head_of (within w.pool); counters = w.counters }

-- from n fresh slots
unfoldable pub stepped : Assembler → Rules → ℕ → List Call → Seen
stepped f R n cs = seen_of (call_all f (fresh_world R n) cs)
