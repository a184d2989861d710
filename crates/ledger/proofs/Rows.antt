-- What a batch leaves and says is what the single calls of the frames it took leave and say; and those frames have eight bytes each.
-- Assumes nothing.
use mathlib.Core.Bool.{Bool, true, false}
use mathlib.Core.List.{List, [], ◌∷◌, ◌++◌, append_assoc, append-nil}
use mathlib.Core.Path.{◌≡◌, refl, sym, ap, subst, ◌∙◌}
use Prim.Native.Nat.{ℕ, zero, suc, ◌+◌, ◌*◌, ◌≤◌, ◌<◌}
use native.Mathlib.Omega.{arith}
use lib.ListN.{length, get_or, take, drop, length-drop}
use lib.Seq.{take_at, drop_at, length-take-le, get_or-take, get_or-drop}
use lib.Dec.{ltb}
use borrow.Author.Tests.{ltb-false}
use Rattle.base.specs.Answer.{gives, refuses}
use Rattle.base.specs.Pick.{pick}
use Rattle.base.proofs.Bools.{or_left, or_right}
use Rattle.session.specs.declared.Heard.{Heard}
use Rattle.session.specs.declared.Counters.{Counters}
use Rattle.session.specs.declared.Kind.{Kind}
use Rattle.session.specs.declared.Kind.TheVariants.{ImpossiblePool, TooWide, NotListed, Rejected, PoolFull, Lost, FragmentConsumed, MessageComplete}
use Rattle.session.specs.Kinds.{kind_number}
use Rattle.session.specs.Rules.{Rules, rules_by}
use Rattle.session.specs.declared.Mode.{Mode}
use Rattle.session.specs.declared.PoolKind.{PoolKind}
use Rattle.session.specs.declared.PoolKind.TheVariants.{Original}
use Rattle.assembler.specs.declared.Pool.{Pool}
use Rattle.assembler.specs.declared.Received.{Received}
use Rattle.assembler.specs.Call.{Call, CallOk}
use Rattle.assembler.specs.Slots.{Slot, Slots, impossible}
use Rattle.assembler.specs.Step.{Event, not_listed, rejected, short_message, pool_full, opened, stray, broken, copied, completed, Why, ignored, consumed, Reply, padded, message, said_of, outcome, step_if, step}
use Rattle.assembler.specs.View.{slots_of, zeros, reply_kind, reply_payload, reply_length, shown, receive_of}
use Rattle.assembler.specs.Promises.{rules_of}
use Rattle.batch.specs.declared.Batch.{Batch}
use Rattle.batch.specs.Lengths.{too_short}
use Rattle.batch.specs.Rows as rows
use Rattle.batch.specs.Rows.{Rows, frame_in_rows, took, answer_in, run_of, over, leaves, refuses_pool, refused_by, batch_of, BatchLeft, frames_in, taken_in, AreLeft, Batches}
use Rattle.batch.specs.Calls.{call_each, joined}
use Rattle.batch.proofs.Continues.{as_far}
use Rattle.batch.proofs.Runs.{row_fits, unrefused_kind}
use Rattle.ledger.specs.Rows.{newest_row, its_kind, its_length, its_message, RowsDue}
use Rattle.ledger.specs.Runs.{State, saying_of, after_call, call, calls_of, kind_of_number, said_in_rows, after_batch}
use Rattle.ledger.specs.Assemblers.{AllOk, none, more, receives}

-- ---- an answer can be read off a row: its kind by its number, its length within its payload, the rest of which is zeros

-- no two kinds have one number
pub kind_back : (k : Kind) → kind_of_number (kind_number k) ≡ k
unfolding kind_of_number kind_number pick
kind_back ImpossiblePool = refl
kind_back TooWide = refl
kind_back NotListed = refl
kind_back Rejected = refl
kind_back PoolFull = refl
kind_back Lost = refl
kind_back FragmentConsumed = refl
kind_back MessageComplete = refl

record Readable (r : Reply) : Type 0 where
  long : length (take (reply_length r) (reply_payload r)) ≡ reply_length r
  filled : padded (take (reply_length r) (reply_payload r)) ≡ reply_payload r

readable_ignored : (why : Why) → Readable (gives (ignored why))
unfolding reply_payload reply_length padded zeros
readable_ignored why = record { long = refl; filled = refl }

readable_consumed : Readable (gives consumed)
unfolding reply_payload reply_length padded zeros
readable_consumed = record { long = refl; filled = refl }

readable_message : (bytes : List ℕ) → Readable (gives (message bytes))
unfolding reply_payload reply_length message
readable_message bytes =
    let back : take (length bytes) (padded bytes) ≡ bytes = unfold padded in take_at bytes _ (length bytes) refl in
    record { long = ap length back; filled = ap padded back }

readable_refused : Readable (refuses 1 [])
unfolding reply_payload reply_length padded zeros
readable_refused = record { long = refl; filled = refl }

readable_said : (f : Heard) (ss : List Slot) (e : Event) → Readable (gives (said_of f ss e))
unfolding said_of
readable_said f ss not_listed = readable_ignored _
readable_said f ss rejected = readable_ignored _
readable_said f ss short_message = readable_message _
readable_said f ss pool_full = readable_ignored _
readable_said f ss (opened i late) = readable_consumed
readable_said f ss stray = readable_ignored _
readable_said f ss (broken i) = readable_ignored _
readable_said f ss (copied i) = readable_consumed
readable_said f ss (completed i) = readable_message _

readable_step : (b : Bool) (R : Rules) (p : Slots) (k : Counters) (c : Call) → Readable (step_if b R p k c).reply
unfolding step_if outcome
readable_step true R p k c = readable_refused
readable_step false R p k c = readable_said _ _ _

readable : (R : Rules) (pgns : List ℕ) (f : Heard) (p : Pool) (k : Counters) → Readable (step R (slots_of p) k (record { pgns = pgns; heard = f })).reply
unfolding step
readable R pgns f p k = readable_step (impossible R (slots_of p)) R (slots_of p) k (record { pgns = pgns; heard = f })

-- the answer of a call, read off the start of the rows
record Told (a : Received) (arena : List ℕ) : Type 0 where
  same : record { kind = kind_of_number (kind_number a.kind); payload = padded (take a.length (take a.length a.payload ++ arena)); length = a.length } ≡ saying_of a
  rest : drop a.length (take a.length a.payload ++ arena) ≡ arena

told : (R : Rules) (pgns : List ℕ) (f : Heard) (p : Pool) (k : Counters) (arena : List ℕ) → Told (receive_of R pgns f p k) arena
unfolding receive_of shown saying_of
told R pgns f p k arena =
    let h = readable R pgns f p k in
    let r : Reply = (step R (slots_of p) k (record { pgns = pgns; heard = f })).reply in
    let bytes : List ℕ = take (reply_length r) (reply_payload r) in
    record { same = rw (take_at bytes arena (reply_length r) h.long, kind_back (reply_kind r), h.filled); rest = drop_at bytes arena (reply_length r) h.long }

-- ---- single calls, and what they say

module _ (R : Rules) (l : List ℕ) (w : Rows) where
  took_joined : (y x : rows.Run) (a : Received) → took (joined y x) a ≡ joined y (took x a)
  unfolding took joined
  took_joined y x a = simp append_assoc

  -- calls after other answers
  calls_joined : (u i : ℕ) (y x : rows.Run) → call_each R l w u i (joined y x) ≡ joined y (call_each R l w u i x)
  unfolding call_each
  calls_joined zero i y x = refl
  calls_joined (suc u) i y x =
      let same : answer_in R l (joined y x) (frame_in_rows w i) ≡ answer_in R l x (frame_in_rows w i) = unfold answer_in joined in refl in
      rw (same, took_joined y x (answer_in R l x (frame_in_rows w i))) (calls_joined u (suc i) y (took x (answer_in R l x (frame_in_rows w i))))

  -- the first answer alone
  alone : Received → rows.Run
  alone a = record { pool = a.pool; counters = a.counters; kinds = kind_number a.kind ∷ []; lengths = a.length ∷ []; messages = take a.length a.payload }

  first_joined : (n i : ℕ) (p : Pool) (k : Counters) → call_each R l w (suc n) i (rows.empty_run p k)
      ≡ joined (alone (receive_of R l (frame_in_rows w i) p k)) (call_each R l w n (suc i) (rows.empty_run (receive_of R l (frame_in_rows w i) p k).pool (receive_of R l (frame_in_rows w i) p k).counters))
  unfolding call_each
  first_joined n i p k =
      let a : Received = receive_of R l (frame_in_rows w i) p k in
      let begun : took (rows.empty_run p k) (answer_in R l (rows.empty_run p k) (frame_in_rows w i)) ≡ joined (alone a) (rows.empty_run a.pool a.counters) =
      unfold took answer_in joined rows.empty_run alone in simp append-nil in
      ap (call_each R l w n (suc i)) begun ∙ calls_joined n (suc i) (alone a) (rows.empty_run a.pool a.counters)

  -- n calls from a state leave the pool and counters that the run has, and say what its rows say
  pub rows_say : (n i : ℕ) (z : State) (kinds lengths arena : List ℕ) → let y : rows.Run = call_each R l w n i (rows.empty_run z.pool z.counters) in
      record { pool = y.pool; counters = y.counters; said = said_in_rows n (y.kinds ++ kinds) (y.lengths ++ lengths) (y.messages ++ arena) z.said } ≡ receives (receive_of R) z (calls_of l w n i)
  unfolding calls_of receives said_in_rows after_call joined alone
  rows_say zero i z kinds lengths arena = unfold call_each rows.empty_run in refl
  rows_say (suc n) i z kinds lengths arena =
      let a : Received = receive_of R l (frame_in_rows w i) z.pool z.counters in
      let x : rows.Run = call_each R l w n (suc i) (rows.empty_run a.pool a.counters) in
      let h = told R l (frame_in_rows w i) z.pool z.counters (x.messages ++ arena) in
      rw (first_joined n i z.pool z.counters) (rw (append_assoc (take a.length a.payload) x.messages arena, h.same, h.rest) (rows_say n (suc i) (after_call z a) kinds lengths arena))

  -- ---- the rows are those of what was said, call by call

  record RowsOf (m : ℕ) (x : rows.Run) (z : State) : Type 0 where
    pool : x.pool ≡ z.pool
    counters : x.counters ≡ z.counters
    kinds : x.kinds ≡ newest_row its_kind m z.said
    lengths : x.lengths ≡ newest_row its_length m z.said
    messages : x.messages ≡ newest_row its_message m z.said

  rows_one : (m : ℕ) (x : rows.Run) (z : State) (f : Heard) → RowsOf m x z → RowsOf (suc m) (took x (answer_in R l x f)) (after_call z (receive_of R l f z.pool z.counters))
  unfolding took answer_in after_call saying_of newest_row its_kind its_length its_message
  rows_one m x z f h = rw (h.pool, h.counters, h.kinds, h.lengths, h.messages) (record { pool = refl; counters = refl; kinds = refl; lengths = refl; messages = refl })

  rows_all : (m n i : ℕ) (x : rows.Run) (z : State) → RowsOf m x z → RowsOf (m + n) (call_each R l w n i x) (receives (receive_of R) z (calls_of l w n i))
  unfolding call_each receives calls_of
  rows_all m zero i x z h =
      let k : m + 0 ≡ m = omega arith in
      rw k h
  rows_all m (suc n) i x z h =
      let k : m + suc n ≡ suc m + n = omega arith in
      rw k (rows_all (suc m) n (suc i) (took x (answer_in R l x (frame_in_rows w i))) (after_call z (receive_of R l (frame_in_rows w i) z.pool z.counters)) (rows_one m x z (frame_in_rows w i) h))

  rows_none : (z : State) → RowsOf 0 (rows.empty_run z.pool z.counters) z
  unfolding rows.empty_run newest_row
  rows_none z = record { pool = refl; counters = refl; kinds = refl; lengths = refl; messages = refl }

-- ---- the frames that a batch takes

-- each has eight bytes, where the row of bytes is long enough, and no part
rows_ok : (kind : PoolKind) (mode : Mode) → kind ≡ Original → (l : List ℕ) (w : Rows) → ((i : ℕ) → get_or w.bytes i 0 < 256) → (n i : ℕ) → (i + n) * 8 ≤ length w.bytes → AllOk (rules_by kind mode) (calls_of l w n i)
unfolding calls_of frame_in_rows
rows_ok kind mode own l w small zero i h = none
rows_ok kind mode own l w small (suc n) i h =
    let ok : CallOk (call l (frame_in_rows w i)) =
    record {
      eight = length-take-le 8 (drop (i * 8) w.bytes) (simp length-drop (omega arith));
      byte = rw (get_or-take 8 (drop (i * 8) w.bytes) 0 0 (omega arith), get_or-drop (i * 8) w.bytes 0 0) (small (i * 8 + 0));
    } in
    more ok (row_fits kind mode own l w i (frame_in_rows w i) refl) (rows_ok kind mode own l w small n (suc i) (omega arith))

long_enough : (n pgns sources bytes kinds lengths : ℕ) → too_short n pgns sources bytes kinds lengths ≡ false → n * 8 ≤ bytes
unfolding too_short
long_enough n pgns sources bytes kinds lengths e = ltb-false bytes (n * 8) (or_left (ltb bytes (n * 8)) _ (or_right (ltb sources n) _ (or_right (ltb pgns n) _ e)))

-- under the rules of the pool that they begin with, which no call changes
pub record Taken (z y : State) (cs : List Call) : Type 0 where
  pub is : y ≡ receives (receive_of (rules_of z.pool)) z cs
  pub oks : AllOk (rules_of z.pool) cs

-- ... and what the rows of a batch then hold
abbrev RowsAfter : State → BatchLeft → List ℕ → List ℕ → List ℕ → Type 0
RowsAfter y b kinds lengths arena = RowsDue (taken_in b.answer) y.said kinds lengths arena b.kinds b.lengths b.arena

module _ (l : List ℕ) (w : Rows) (z : State) (kinds lengths arena : List ℕ) (small : (i : ℕ) → get_or w.bytes i 0 < 256) where
  after : BatchLeft → State
  after b = record { pool = b.pool; counters = b.counters; said = said_in_rows (taken_in b.answer) b.kinds b.lengths b.arena z.said }

  abbrev Good : BatchLeft → Type 0
  Good b = Taken z (after b) (calls_of l w (taken_in b.answer) 0) × RowsAfter (receives (receive_of (rules_of z.pool)) z (calls_of l w (taken_in b.answer) 0)) b kinds lengths arena

  good_refused : (n : ℕ) → Good (refused_by n z.pool z.counters kinds lengths arena)
  unfolding after taken_in refused_by calls_of receives said_in_rows newest_row over
  good_refused n = (record { is = refl; oks = none }, record { told = refl; measured = refl; delivered = refl })

  good_run : z.pool.kind ≡ Original → too_short (length w.times) (length w.pgns) (length w.sources) (length w.bytes) (length kinds) (length lengths) ≡ false
      → Good (leaves (run_of (rules_of z.pool) l w (length arena) z.pool z.counters) kinds lengths arena)
  unfolding after taken_in leaves over rules_of
  good_run own e =
      let y : rows.Run = run_of (rules_of z.pool) l w (length arena) z.pool z.counters in
      let t : ℕ = length y.kinds in
      let far = as_far (rules_of z.pool) l w (length arena) z.pool z.counters in
      let same = rows_say (rules_of z.pool) l w t 0 z (drop t kinds) (drop (length y.lengths) lengths) (drop (length y.messages) arena) in
      let long = long_enough (length w.times) (length w.pgns) (length w.sources) (length w.bytes) (length kinds) (length lengths) e in
      let held = rows_all (rules_of z.pool) l w 0 t 0 (rows.empty_run z.pool z.counters) z (rows_none (rules_of z.pool) l w z) in
      let zero-add : 0 + t ≡ t = omega arith in (
        record {
          is = subst (λ (x : rows.Run). record { pool = x.pool; counters = x.counters; said = said_in_rows t (x.kinds ++ drop t kinds) (x.lengths ++ drop (length y.lengths) lengths) (x.messages ++ drop (length y.messages) arena) z.said } ≡ receives (receive_of (rules_of z.pool)) z (calls_of l w t 0)) (sym far.same) same;
          oks = rows_ok z.pool.kind z.pool.mode own l w small t 0 (omega (arith, long, far.few));
        },
        record {
          told = ap (λ (new : List ℕ). new ++ drop (length new) kinds) (ap (λ (x : rows.Run). x.kinds) far.same ∙ (rw zero-add at held).kinds);
          measured = ap (λ (new : List ℕ). new ++ drop (length new) lengths) (ap (λ (x : rows.Run). x.lengths) far.same ∙ (rw zero-add at held).lengths);
          delivered = ap (λ (new : List ℕ). new ++ drop (length new) arena) (ap (λ (x : rows.Run). x.messages) far.same ∙ (rw zero-add at held).messages);
        },
      )

  good_batch : Good (batch_of (rules_of z.pool) l w z.pool z.counters kinds lengths arena)
  unfolding batch_of pick
  good_batch = go (refuses_pool (rules_of z.pool) z.pool) refl (too_short (length w.times) (length w.pgns) (length w.sources) (length w.bytes) (length kinds) (length lengths)) refl
    where
      go : (a : Bool) → refuses_pool (rules_of z.pool) z.pool ≡ a → (b : Bool) → too_short (length w.times) (length w.pgns) (length w.sources) (length w.bytes) (length kinds) (length lengths) ≡ b
          → Good (pick a (refused_by 1 z.pool z.counters kinds lengths arena) (pick b (refused_by 27 z.pool z.counters kinds lengths arena) (leaves (run_of (rules_of z.pool) l w (length arena) z.pool z.counters) kinds lengths arena)))
      go true f b e = good_refused 1
      go false f true e = good_refused 27
      go false f false e = good_run (unrefused_kind (rules_of z.pool) z.pool f) e

-- a batch that keeps its promise
module _ {l times pgns sources bytes : List ℕ} (z : State) {kinds lengths arena : List ℕ} {r : Batch} {kinds' lengths' arena' : List ℕ} (small : (i : ℕ) → get_or bytes i 0 < 256)
    (h : Batches l times pgns sources bytes z.pool z.counters kinds lengths arena r kinds' lengths' arena') where
  abbrev heard_rows : Rows
  heard_rows = record { times = times; pgns = pgns; sources = sources; bytes = bytes }

  abbrev promise : AreLeft (batch_of (rules_of z.pool) l heard_rows z.pool z.counters kinds lengths arena) r kinds' lengths' arena'
  promise = h.leaves_these

  batch_after : after_batch z r kinds' lengths' arena' ≡ after l heard_rows z kinds lengths arena small (batch_of (rules_of z.pool) l heard_rows z.pool z.counters kinds lengths arena)
  unfolding after after_batch
  batch_after = rw (promise.left, promise.counted, promise.taken, promise.told, promise.measured, promise.delivered) refl

  pub batch_taken : Taken z (after_batch z r kinds' lengths' arena') (calls_of l heard_rows (frames_in r.result) 0)
  batch_taken = subst (λ (y : State). Taken z y (calls_of l heard_rows (frames_in r.result) 0)) (sym batch_after) (rw promise.taken (good_batch l heard_rows z kinds lengths arena small).0)

  pub batch_rows : RowsDue (frames_in r.result) (after_batch z r kinds' lengths' arena').said kinds lengths arena kinds' lengths' arena'
  batch_rows = rw batch_taken.is (rw (promise.taken, promise.told, promise.measured, promise.delivered) (good_batch l heard_rows z kinds lengths arena small).1)
