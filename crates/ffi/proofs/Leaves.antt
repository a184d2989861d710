-- A refusal changes no lent memory: the heads laid back over the numbers that they were read from leave every number as it was. A number that is no mode, or no
-- kind, is refused by 1. Assumes nothing.
use Prim.Native.Nat.{ℕ, zero, suc, ◌+◌, ◌*◌, ◌%◌, ◌<◌, ◌≤◌}
use mathlib.Core.Bool.{Bool, true, false, not, ◌||◌}
use mathlib.Core.List.{List, [], ◌∷◌}
use mathlib.Core.Path.{◌≡◌, refl, sym, ap, subst, ◌∙◌}
use lib.ListN.{get_or, length, length-append, get_or-append}
use lib.Seq.{sets, get_or_at}
use lib.Dec.{eqb, ltb}
use native.Mathlib.Nat.{add-zero}
use native.Mathlib.Omega.{arith}
use borrow.Author.Tests.{lt-ltb, ne_eqb}
use Rattle.base.specs.Answer.{Answer, gives, refuses}
use Rattle.base.specs.Pick.{pick}
use Rattle.base.proofs.Bools.{or_true}
use Rattle.base.proofs.Cases.{when_eq, pick_all, same?}
use Rattle.can_id.specs.Read.{read_of}
use Rattle.can_id.specs.declared.CanIdParts.{CanIdParts}
use Rattle.session.specs.Kinds.{kind_number}
use Rattle.session.specs.Rules.{Rules, rules_by, pool_limit}
use Rattle.session.specs.Heads.{fresh_head}
use Rattle.session.specs.declared.Head.{Head}
use Rattle.session.specs.declared.Heard.{Heard}
use Rattle.session.specs.declared.Kind.TheVariants.{ImpossiblePool, TooWide}
use Rattle.session.specs.declared.Mode.{Mode}
use Rattle.session.specs.declared.PoolKind.{PoolKind}
use Rattle.session.specs.declared.PoolKind.TheVariants.{Original, Addressed}
use Rattle.session.specs.declared.Counters.{Counters}
use Rattle.assembler.specs.Call.{Call}
use Rattle.assembler.specs.Making.{pool_bytes, size_made, pool_made, fresh_pool_in}
use Rattle.assembler.specs.Slots.{within, impossible}
use Rattle.assembler.specs.Step.{unlisted, bad_frame, no_slot, lost, Said, ignored, consumed, complete, said_of, event_of, step, step_if, outcome}
use Rattle.assembler.specs.View.{slots_of, pool_of, zeros, why_kind, reply_kind, reply_payload, reply_length, shown, receive_of}
use Rattle.assembler.specs.declared.Pool.{Pool}
use Rattle.assembler.specs.declared.Arrival.{Arrival}
use Rattle.assembler.specs.declared.ArrivalById.{ArrivalById}
use Rattle.assembler.specs.Arrivals.{ArrivalByIdWithLength}
use Rattle.assembler.specs.Arrivals.{ArrivalWithLength}
use Rattle.assembler.specs.Arrivals.{heard_of, heard_with_length, heard_by_id, heard_by_id_with_length}
use Rattle.assembler.specs.Promises.{rules_of, same_kind, entered, at_original, at_addressed, answer_to}
use Rattle.assembler.specs.declared.Received.{Received}
use Rattle.assembler.proofs.Entries.{answer_steps, answer_refused}
use Rattle.assembler.proofs.Views.{view_back}
use Rattle.batch.specs.Rows.{Rows, Run, batch_of, leaves, refuses_pool, refused_by, taken_in, BatchLeft}
use Rattle.numbers.specs.Numbers.{is_set, laid_on, parts_with, ToldInFour}
use Rattle.numbers.specs.Pool.{head_numbers, head_at, head_over, heads_to, heads_from, laid_to, laid_over, mode_number, mode_from, pool_kind_number, pool_kind_from, size_under, delivered_on, pool_from, counters_from, counter_numbers, CallMemory, CallLeft, PoolMemory, PoolLeft}
use Rattle.numbers.proofs.Sets.{sets_same}
use Rattle.ffi.specs.Ids.{IdRead}
use Rattle.ffi.specs.Calls.{NewPoolLeft, PoolWithModeLeft, PoolWithKindLeft, pool_in, received_in, FrameLeft, FrameWithLengthLeft, FrameByIdLeft, FrameByIdWithLengthLeft}
use Rattle.ffi.specs.Batches.{BatchMemory, BatchMemoryLeft, batch_in, FramesLeft}

-- ---- what was read from a number leaves it
same : (old new : ℕ) → laid_on old new new ≡ old
unfolding laid_on
same old new = sym (when_eq old new {a = new} refl refl)

abbrev numbers_at : List ℕ → ℕ → List ℕ
numbers_at n at = get_or n at 0 ∷ get_or n (at + 1) 0 ∷ get_or n (at + 2) 0 ∷ get_or n (at + 3) 0 ∷ get_or n (at + 4) 0 ∷ get_or n (at + 5) 0 ∷ get_or n (at + 6) 0 ∷ get_or n (at + 7) 0 ∷ get_or n (at + 8) 0 ∷ []

head_same : (n : List ℕ) (at : ℕ) → sets n at (head_over n at (head_at n at)) ≡ n
unfolding head_over head_at
head_same n at =
    rw (
      same (get_or n at 0) (pick (is_set (get_or n at 0)) 1 0),
      same (get_or n (at + 1) 0) (get_or n (at + 1) 0 % 0x100),
      same (get_or n (at + 2) 0) (get_or n (at + 2) 0 % 0x100),
      same (get_or n (at + 3) 0) (get_or n (at + 3) 0 % 0x100),
      same (get_or n (at + 4) 0) (get_or n (at + 4) 0 % 0x1_0000_0000),
      same (get_or n (at + 5) 0) (get_or n (at + 5) 0 % 0x1_0000),
    ) (sets_same (numbers_at n at) n at 0 each)
  where
    first : get_or n at 0 ≡ get_or n (at + 0) 0
    first = ap (λ (i : ℕ). get_or n i 0) (sym (add-zero at))

    each : (k : ℕ) → k < head_numbers → get_or (numbers_at n at) k 0 ≡ get_or n (at + k) 0
    each zero h = first
    each (suc zero) h = refl
    each (suc (suc zero)) h = refl
    each (suc (suc (suc zero))) h = refl
    each (suc (suc (suc (suc zero)))) h = refl
    each (suc (suc (suc (suc (suc zero))))) h = refl
    each (suc (suc (suc (suc (suc (suc zero)))))) h = refl
    each (suc (suc (suc (suc (suc (suc (suc zero))))))) h = refl
    each (suc (suc (suc (suc (suc (suc (suc (suc zero)))))))) h = refl
    each (suc (suc (suc (suc (suc (suc (suc (suc (suc k))))))))) h = absurd (omega arith)

heads_long : (k : ℕ) (n : List ℕ) → length (heads_to k n) ≡ k
unfolding heads_to
heads_long zero n = refl
heads_long (suc k) n = length-append (heads_to k n) (head_at n (head_numbers * k) ∷ []) ∙ omega (arith, heads_long k n)

head_in : (k j : ℕ) (n : List ℕ) (d : Head) → j < k → get_or (heads_to k n) j d ≡ head_at n (head_numbers * j)
unfolding heads_to
head_in zero j n d h = absurd (omega arith)
head_in (suc k) j n d h =
    same? j k
    (λ e. rw e (get_or_at (heads_to k n) (head_at n (head_numbers * k)) [] d k (heads_long k n)))
    (λ e. get_or-append (heads_to k n) (head_at n (head_numbers * k) ∷ []) d j (omega (arith, heads_long k n)) ∙ head_in k j n d (omega arith))

laid_some : (k : ℕ) (n : List ℕ) → k ≤ pool_limit → laid_to k n (heads_from n) ≡ n
unfolding laid_to heads_from
laid_some zero n h = refl
laid_some (suc k) n h = rw (laid_some k n (omega arith), head_in pool_limit k n fresh_head h) (head_same n (head_numbers * k))

-- the theorem: whatever numbers the heads were read from, laying them back leaves those numbers
pub laid_back : (n : List ℕ) → laid_over n (heads_from n) ≡ n
unfolding laid_over
laid_back n = laid_some pool_limit n (omega arith)

counters_back : (n : List ℕ) → length n ≡ 5 → counter_numbers (counters_from n) ≡ n
unfolding counter_numbers counters_from
counters_back (a ∷ b ∷ c ∷ d ∷ e ∷ []) h = refl
counters_back [] h = absurd (omega arith)
counters_back (a ∷ []) h = absurd (omega arith)
counters_back (a ∷ b ∷ []) h = absurd (omega arith)
counters_back (a ∷ b ∷ c ∷ []) h = absurd (omega arith)
counters_back (a ∷ b ∷ c ∷ d ∷ []) h = absurd (omega arith)
counters_back (a ∷ b ∷ c ∷ d ∷ e ∷ f ∷ l) h = absurd (omega arith)

-- ---- the receive calls: the number of a refusal is below 100, that of every other answer is not

-- by 8, or by 1
refusal : Bool → Pool → Counters → Received
refusal wide p k = record { kind = pick wide TooWide ImpossiblePool; payload = zeros; length = 0; pool = p; counters = k }

given : (s : Said) → kind_number (reply_kind (gives s)) < 100 → ⊥
unfolding reply_kind why_kind kind_number
given (ignored unlisted) h = omega arith
given (ignored bad_frame) h = omega arith
given (ignored no_slot) h = omega arith
given (ignored lost) h = omega arith
given consumed h = omega arith
given (complete bytes n) h = omega arith

refused_if : (R : Rules) (b : Bool) (p : Pool) (k : Counters) (c : Call)
    → kind_number (shown p.kind p.mode (step_if b R (slots_of p) k c)).kind < 100 → shown p.kind p.mode (step_if b R (slots_of p) k c) ≡ refusal false (pool_of p.kind p.mode (slots_of p)) k
unfolding shown step_if outcome refusal reply_kind pick reply_payload reply_length
refused_if R true p k c h = refl
refused_if R false p k c h = absurd (given (said_of c.heard (within (slots_of p)) (event_of R (within (slots_of p)) c)) h)

-- what a refused call leaves: every number and byte that was lent, but for the length of no message
pub record Untouched (before after : CallMemory) : Type 0 where
  pub heads_kept : after.heads ≡ before.heads
  pub bytes_kept : after.bytes ≡ before.bytes
  pub counters_kept : after.counters ≡ before.counters
  pub payload_kept : after.payload ≡ before.payload
  pub no_message : after.length ≡ 0

pool_back : (size mode kind : ℕ) (heads bytes : List ℕ) → length bytes ≡ pool_bytes
    → pool_of (pool_from size mode kind heads bytes).kind (pool_from size mode kind heads bytes).mode (slots_of (pool_from size mode kind heads bytes)) ≡ pool_from size mode kind heads bytes
unfolding pool_from heads_from
pool_back size mode kind heads bytes long = view_back (pool_from size mode kind heads bytes) (record { heads = heads_long pool_limit heads; bytes = long })

-- no refusal is a message
undelivered : (wide : Bool) (old message : List ℕ) → delivered_on old (pick wide TooWide ImpossiblePool) message ≡ old
unfolding pick
undelivered true old message = refl
undelivered false old message = refl

module _ (size mode kind : ℕ) (pgns : List ℕ) (before : CallMemory) (long : length before.bytes ≡ pool_bytes) (five : length before.counters ≡ 5) where
  abbrev pool : Pool
  pool = pool_from size mode kind before.heads before.bytes

  abbrev counts : Counters
  counts = counters_from before.counters

  untouched : (wide : Bool) {code : ℕ} {after : CallMemory} → CallLeft (refusal wide pool counts) before code after → Untouched before after
  unfolding refusal pool_from
  untouched wide l =
      record {
        heads_kept = l.kept ∙ laid_back before.heads;
        bytes_kept = l.stored;
        counters_kept = l.counted ∙ counters_back before.counters five;
        payload_kept = l.delivered ∙ undelivered wide before.payload zeros;
        no_message = l.measured;
      }

  by_call : (heard : Heard) {code : ℕ} {after : CallMemory} → CallLeft (receive_of (rules_of pool) pgns heard pool counts) before code after → code < 100 → Untouched before after
  unfolding receive_of step
  by_call heard {code} {after} l below =
      untouched false
      (subst (λ (r : Received). CallLeft r before code after)
      (refused_if (rules_of pool) _ pool counts (record { pgns = pgns; heard = heard }) (subst (λ (n : ℕ). n < 100) l.told below)
      ∙ ap (λ (p : Pool). refusal false p counts) (pool_back size mode kind before.heads before.bytes long))
      l)

  -- whatever came by an entry
  by_entry : (a : Answer Heard) {code : ℕ} {after : CallMemory} → CallLeft (answer_to pgns a pool counts) before code after → code < 100 → Untouched before after
  by_entry (gives f) {code} {after} l below = by_call f (subst (λ (r : Received). CallLeft r before code after) (answer_steps pgns pool counts f) l) below
  by_entry (refuses n carried) {code} {after} l below =
      untouched (eqb n 8) (subst (λ (r : Received). CallLeft r before code after) (answer_refused pgns pool counts n carried ∙ (unfold reply_kind refusal in refl)) l)

  -- `hf_raw_process_frame` and `hf_raw_receive`
  pub refused_leaves : (a : Arrival) {code : ℕ} {after : CallMemory} → FrameLeft size mode kind pgns a before code after → code < 100 → Untouched before after
  unfolding received_in pool_in
  refused_leaves a = by_entry (at_original pool (heard_of a))

  -- `hf_raw_process_frame_with_length`
  pub refused_with_length_leaves : (x : ArrivalWithLength) {code : ℕ} {after : CallMemory} → FrameWithLengthLeft size mode kind pgns x before code after → code < 100 → Untouched before after
  unfolding received_in pool_in
  refused_with_length_leaves x = by_entry (at_original pool (heard_with_length x))

  -- `hf_raw_process_frame_by_id` and `hf_raw_receive_by_id`
  pub refused_by_id_leaves : (a : ArrivalById) {code : ℕ} {after : CallMemory} → FrameByIdLeft size mode kind pgns a before code after → code < 100 → Untouched before after
  unfolding received_in pool_in
  refused_by_id_leaves a = by_entry (at_addressed pool (heard_by_id a))

  -- `hf_raw_process_frame_by_id_with_length`
  pub refused_by_id_with_length_leaves : (x : ArrivalByIdWithLength) {code : ℕ} {after : CallMemory} → FrameByIdWithLengthLeft size mode kind pgns x before code after → code < 100
      → Untouched before after
  unfolding received_in pool_in
  refused_by_id_with_length_leaves x = by_entry (at_addressed pool (heard_by_id_with_length x))

-- ---- the batch: 0 is no refusal

pub record BatchUntouched (before after : BatchMemory) : Type 0 where
  pub heads_kept : after.heads ≡ before.heads
  pub bytes_kept : after.bytes ≡ before.bytes
  pub counters_kept : after.counters ≡ before.counters
  pub kinds_kept : after.kinds ≡ before.kinds
  pub lengths_kept : after.lengths ≡ before.lengths
  pub arena_kept : after.arena ≡ before.arena
  pub nothing_taken : after.counts ≡ 0 ∷ 0 ∷ []

module _ (before : BatchMemory) (code : ℕ) (after : BatchMemory) where
  abbrev pub Leaves : BatchLeft → Type 0
  Leaves l = BatchMemoryLeft l before code after → (code ≡ 0 → ⊥) → BatchUntouched before after

  module _ (size mode kind : ℕ) (five : length before.counters ≡ 5) where
    by_refusal : (n : ℕ) → Leaves (refused_by n (pool_from size mode kind before.heads before.bytes) (counters_from before.counters) before.kinds before.lengths before.arena)
    unfolding refused_by pool_from taken_in
    by_refusal n l h =
        record {
          heads_kept = l.kept ∙ laid_back before.heads;
          bytes_kept = l.stored;
          counters_kept = l.counted ∙ counters_back before.counters five;
          kinds_kept = l.answered;
          lengths_kept = l.measured;
          arena_kept = l.delivered;
          nothing_taken = l.taken;
        }

    by_run : (z : Run) → Leaves (leaves z before.kinds before.lengths before.arena)
    unfolding leaves
    by_run z l h = absurd (h l.told)

    -- `hf_raw_process_frames`
    pub refused_batch_leaves : (pgns : List ℕ) (rows : Rows) → FramesLeft size mode kind pgns rows before code after → (code ≡ 0 → ⊥) → BatchUntouched before after
    unfolding batch_in batch_of
    refused_batch_leaves pgns rows = pick_all Leaves _ (by_refusal 1) (pick_all Leaves _ (by_refusal 27) (by_run _))

-- ---- making a pool
module _ (before : PoolMemory) (code : ℕ) (after : PoolMemory) where
  by_answer : (a : Answer ℕ) {p : Pool} → PoolLeft a p before code after → (code ≡ 0 → ⊥) → (after.heads ≡ before.heads) × (after.bytes ≡ before.bytes)
  by_answer (gives size) l h = absurd (h l.told)
  by_answer (refuses n carried) l h = (l.kept, l.stored)

  -- `hf_raw_pool_new`
  pub refused_making_leaves : (wanted : ℕ) → NewPoolLeft wanted before code after → (code ≡ 0 → ⊥) → (after.heads ≡ before.heads) × (after.bytes ≡ before.bytes)
  refused_making_leaves wanted = by_answer (size_made wanted)

  -- `hf_raw_pool_with_mode`
  pub refused_making_with_mode_leaves : (wanted asked : ℕ) → PoolWithModeLeft wanted asked before code after → (code ≡ 0 → ⊥)
      → (after.heads ≡ before.heads) × (after.bytes ≡ before.bytes)
  refused_making_with_mode_leaves wanted asked = by_answer (size_made (size_under asked 0 wanted))

  -- `hf_raw_pool_with_kind`
  pub refused_making_with_kind_leaves : (wanted asked kind : ℕ) → PoolWithKindLeft wanted asked kind before code after → (code ≡ 0 → ⊥)
      → (after.heads ≡ before.heads) × (after.bytes ≡ before.bytes)
  refused_making_with_kind_leaves wanted asked kind = by_answer (size_made (size_under asked kind wanted))

-- ---- a number that is no mode, or no kind: every call refuses the pool by 1, and none is made with it

-- one of the two numbers stands for nothing
abbrev NoNumber : ℕ → ℕ → Type 0
NoNumber mode kind = (ltb 1 mode || ltb 1 kind) ≡ true

pub no_mode : (mode kind : ℕ) → 1 < mode → NoNumber mode kind
no_mode mode kind none = rw (lt-ltb 1 mode none)

pub no_kind : (mode kind : ℕ) → 1 < kind → NoNumber mode kind
no_kind mode kind none = rw (lt-ltb 1 kind none) (or_true (ltb 1 mode))

module _ (size mode kind : ℕ) (none : NoNumber mode kind) where
  too_large : (heads bytes : List ℕ) → impossible (rules_of (pool_from size mode kind heads bytes)) (slots_of (pool_from size mode kind heads bytes)) ≡ true
  unfolding pool_from size_under pick impossible rules_of rules_by slots_of
  too_large heads bytes = rw none refl

  module _ (pgns : List ℕ) (before : CallMemory) where
    abbrev asked : Pool
    asked = pool_from size mode kind before.heads before.bytes

    stepped : (heard : Heard) → (receive_of (rules_of asked) pgns heard asked (counters_from before.counters)).kind ≡ ImpossiblePool
    unfolding receive_of step shown step_if reply_kind
    stepped heard = rw (too_large before.heads before.bytes) (unfold pick in refl)

    -- of the other kind, or too large
    unheard : (entry : PoolKind) (heard : Heard) → (answer_to pgns (entered entry asked (gives heard)) asked (counters_from before.counters)).kind ≡ ImpossiblePool
    unfolding entered
    unheard entry heard = go (same_kind entry asked.kind)
      where
        go : (b : Bool) → (answer_to pgns (pick b (gives heard) (refuses 1 [])) asked (counters_from before.counters)).kind ≡ ImpossiblePool
        go true = unfold pick in rw (answer_steps pgns asked (counters_from before.counters) heard) (stepped heard)
        go false = unfold pick in rw (answer_refused pgns asked (counters_from before.counters) 1 []) (unfold reply_kind pick in refl)

    told_one : (entry : PoolKind) (heard : Heard) {code : ℕ} {after : CallMemory} → CallLeft (answer_to pgns (entered entry asked (gives heard)) asked (counters_from before.counters)) before code after → code ≡ 1
    unfolding kind_number
    told_one entry heard l = l.told ∙ ap kind_number (unheard entry heard)

    -- `hf_raw_process_frame` and `hf_raw_receive`
    pub no_number_refused : (a : Arrival) {code : ℕ} {after : CallMemory} → FrameLeft size mode kind pgns a before code after → code ≡ 1
    unfolding received_in pool_in
    no_number_refused a = told_one Original (heard_of a)

    -- `hf_raw_process_frame_with_length`
    pub no_number_with_length_refused : (x : ArrivalWithLength) {code : ℕ} {after : CallMemory} → FrameWithLengthLeft size mode kind pgns x before code after → code ≡ 1
    unfolding received_in pool_in
    no_number_with_length_refused x = told_one Original (heard_with_length x)

    -- `hf_raw_process_frame_by_id` and `hf_raw_receive_by_id`, after an identifier that is too wide, which is refused by 8
    pub no_number_by_id_refused : (a : ArrivalById) (f : Heard) {code : ℕ} {after : CallMemory} → heard_by_id a ≡ gives f → FrameByIdLeft size mode kind pgns a before code after → code ≡ 1
    unfolding received_in pool_in
    no_number_by_id_refused a f e l = told_one Addressed f (rw e at l)

    -- `hf_raw_process_frame_by_id_with_length`
    pub no_number_by_id_with_length_refused : (x : ArrivalByIdWithLength) (f : Heard) {code : ℕ} {after : CallMemory} → heard_by_id_with_length x ≡ gives f → FrameByIdWithLengthLeft size mode kind pgns x before code after → code ≡ 1
    unfolding received_in pool_in
    no_number_by_id_with_length_refused x f e l = told_one Addressed f (rw e at l)

  -- `hf_raw_process_frames`
  pub no_number_batch_refused : (pgns : List ℕ) (rows : Rows) (before : BatchMemory) {code : ℕ} {after : BatchMemory} → FramesLeft size mode kind pgns rows before code after → code ≡ 1
  unfolding batch_in batch_of refuses_pool refused_by pick
  no_number_batch_refused pgns rows before l = l.told ∙ rw (too_large before.heads before.bytes, or_true (not (same_kind Original (pool_from size mode kind before.heads before.bytes).kind))) refl

-- what is left where none is made: the lent memory, and the size of the fresh pool beside the refusal
pub record NoneMade (before : PoolMemory) (code : ℕ) (after : PoolMemory) : Type 0 where
  pub refused : code ≡ 1
  pub heads_kept : after.heads ≡ before.heads
  pub bytes_kept : after.bytes ≡ before.bytes
  pub no_slots : after.size ≡ 0

-- `hf_raw_pool_with_kind`; `hf_raw_pool_with_mode` asks for the kind 0
pub no_number_not_made : (wanted asked kind : ℕ) {before : PoolMemory} {code : ℕ} {after : PoolMemory} → NoNumber asked kind → PoolWithKindLeft wanted asked kind before code after → NoneMade before code after
unfolding size_made size_under pool_made fresh_pool_in pick
no_number_not_made wanted asked kind none l =
    record {
      refused = l.told ∙ rw none refl;
      heads_kept = l.kept ∙ rw none refl;
      bytes_kept = l.stored ∙ rw none refl;
      no_slots = l.sized ∙ rw none refl;
    }

pub with_mode_is : (wanted asked : ℕ) {before : PoolMemory} {code : ℕ} {after : PoolMemory} → PoolWithModeLeft wanted asked before code after → PoolWithKindLeft wanted asked 0 before code after
unfolding pool_kind_from pick
with_mode_is wanted asked l = l

-- the number that stands for nothing is left as the original's
made_in : (a : Answer ℕ) (d : PoolKind) (m : Mode) → ((pool_made d m a).mode ≡ m) × ((pool_made d m a).kind ≡ d)
unfolding pool_made fresh_pool_in
made_in (gives n) d m = (refl, refl)
made_in (refuses n carried) d m = (refl, refl)

pub no_mode_left : (wanted asked kind : ℕ) {before : PoolMemory} {code : ℕ} {after : PoolMemory} → 1 < asked → PoolWithKindLeft wanted asked kind before code after → after.mode ≡ 0
no_mode_left wanted asked kind none l =
    l.moded ∙ ap mode_number (made_in (size_made (size_under asked kind wanted)) (pool_kind_from kind) (mode_from asked)).0 ∙ (unfold mode_from mode_number pick in rw (ne_eqb asked 1 (λ e. omega arith)) refl)

pub no_kind_left : (wanted asked kind : ℕ) {before : PoolMemory} {code : ℕ} {after : PoolMemory} → 1 < kind → PoolWithKindLeft wanted asked kind before code after → after.kind ≡ 0
no_kind_left wanted asked kind none l =
    l.of_kind ∙ ap pool_kind_number (made_in (size_made (size_under asked kind wanted)) (pool_kind_from kind) (mode_from asked)).1 ∙ (unfold pool_kind_from pool_kind_number pick in rw (ne_eqb kind 1 (λ e. omega arith)) refl)

-- ---- reading an identifier: `hf_can_id_read`
pub refused_reading_leaves : (id : ℕ) (before : List ℕ) (code : ℕ) (after : List ℕ) → IdRead id before code after → (code ≡ 0 → ⊥) → after ≡ before
refused_reading_leaves id before code after = by_answer (read_of id)
  where
    by_answer : (a : Answer CanIdParts) → ToldInFour a before code after → (code ≡ 0 → ⊥) → after ≡ before
    by_answer (gives parts) l h = absurd (h l.told)
    by_answer (refuses n carried) l h = unfold parts_with in l.laid
