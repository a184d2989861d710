-- A pool, the counters and an answer of the receive call, as numbers and bytes.
use Rattle.std.specs.Prelude.{ℕ, zero, suc, ◌+◌, ◌*◌, ◌%◌, ◌||◌, List, [], ◌∷◌, ◌++◌, ◌≡◌, ltb, eqb, get_or, replicate}
use Rattle.std.proofs.lemmas.List.Edits.{sets}
use Rattle.base.specs.Answer.{Answer, gives, refuses, code_of}
use Rattle.base.specs.Pick.{pick}
use Rattle.session.specs.Rules.{pool_limit}
use Rattle.session.specs.Heads.{fresh_head}
use Rattle.session.specs.Kinds.{kind_number}
use Rattle.session.specs.declared.Head.{Head}
use Rattle.session.specs.declared.Counters.{Counters}
use Rattle.session.specs.declared.Kind.{Kind}
use Rattle.session.specs.declared.Kind.TheVariants.{ImpossiblePool, TooWide, NotListed, Rejected, PoolFull, Lost, FragmentConsumed, MessageComplete}
use Rattle.session.specs.declared.Mode.{Mode}
use Rattle.session.specs.declared.Mode.TheVariants.{AsOriginal, SetBackIsSilence}
use Rattle.session.specs.declared.PoolKind.{PoolKind}
use Rattle.session.specs.declared.PoolKind.TheVariants.{Original, Addressed}
use Rattle.assembler.specs.Making.{Made, of_made, made_pool, MakesPoolOf}
use Rattle.assembler.specs.declared.Pool.{Pool}
use Rattle.assembler.specs.declared.Received.{Received}
use Rattle.numbers.specs.Numbers.{is_set, laid_on}

-- how many numbers a head has
abbrev pub head_numbers : ℕ
head_numbers = 9

-- a head is so many numbers, each read in the width of its field
unfoldable pub head_at : List ℕ → ℕ → Head
head_at n at =
    record {
      in_progress = is_set (get_or n at 0);
      source_address = get_or n (at + 1) 0 % 0x100;
      sequence_id = get_or n (at + 2) 0 % 0x100;
      last_frame_index = get_or n (at + 3) 0 % 0x100;
      pgn = get_or n (at + 4) 0 % 0x1_0000_0000;
      part = get_or n (at + 5) 0 % 0x1_0000;
      expected_size = get_or n (at + 6) 0;
      current_size = get_or n (at + 7) 0;
      last_seen_ms = get_or n (at + 8) 0;
    }

-- a head's numbers over those from `at` on, by the rule of `laid_on`; the sizes and the time are as wide as their numbers
unfoldable pub head_over : List ℕ → ℕ → Head → List ℕ
head_over n at h =
    laid_on (get_or n at 0) (pick (is_set (get_or n at 0)) 1 0) (pick h.in_progress 1 0) ∷
    laid_on (get_or n (at + 1) 0) (get_or n (at + 1) 0 % 0x100) h.source_address ∷
    laid_on (get_or n (at + 2) 0) (get_or n (at + 2) 0 % 0x100) h.sequence_id ∷
    laid_on (get_or n (at + 3) 0) (get_or n (at + 3) 0 % 0x100) h.last_frame_index ∷
    laid_on (get_or n (at + 4) 0) (get_or n (at + 4) 0 % 0x1_0000_0000) h.pgn ∷
    laid_on (get_or n (at + 5) 0) (get_or n (at + 5) 0 % 0x1_0000) h.part ∷
    h.expected_size ∷
    h.current_size ∷
    h.last_seen_ms ∷
    []

-- k heads of numbers: head j stands at head_numbers * j
unfoldable pub heads_to : ℕ → List ℕ → List Head
heads_to zero n = []
heads_to (suc k) n = heads_to k n ++ (head_at n (head_numbers * k) ∷ [])

-- and k heads laid back over numbers
unfoldable pub laid_to : ℕ → List ℕ → List Head → List ℕ
laid_to zero n heads = n
laid_to (suc k) n heads = sets (laid_to k n heads) (head_numbers * k) (head_over (laid_to k n heads) (head_numbers * k) (get_or heads k fresh_head))

-- all heads of a pool
unfoldable pub heads_from : List ℕ → List Head
heads_from n = heads_to pool_limit n

unfoldable pub laid_over : List ℕ → List Head → List ℕ
laid_over n heads = laid_to pool_limit n heads

-- document 02, No. 10: "a mode, chosen when the pool is made": 0 is as the original, 1 counts a clock that was set back as silence
unfoldable pub mode_number : Mode → ℕ
mode_number AsOriginal = 0
mode_number SetBackIsSilence = 1

-- and back; any other number is read as the original's mode
unfoldable pub mode_from : ℕ → Mode
mode_from n = pick (eqb n 1) SetBackIsSilence AsOriginal

-- document 02, No. 12: 0 is the old kind, and 1 the one that is handed the identifier
unfoldable pub pool_kind_number : PoolKind → ℕ
pool_kind_number Original = 0
pool_kind_number Addressed = 1

-- and back; any other number is read as the old kind
unfoldable pub pool_kind_from : ℕ → PoolKind
pool_kind_from n = pick (eqb n 1) Addressed Original

-- but a number above 1 is no mode, and no kind: with it a pool is of more slots than the limit, so that making one and every call on one is refusal 1
unfoldable pub size_under : ℕ → ℕ → ℕ → ℕ
size_under mode kind size = pick (ltb 1 mode || ltb 1 kind) (pool_limit + 1) size

-- a pool is a size, the numbers of its mode and kind, the numbers of each head and the bytes of its slots
unfoldable pub pool_from : ℕ → ℕ → ℕ → List ℕ → List ℕ → Pool
pool_from size mode kind heads bytes = record { kind = pool_kind_from kind; mode = mode_from mode; size = size_under mode kind size; heads = heads_from heads; bytes = bytes }

-- the counters are five numbers, in the Rust's order
unfoldable pub counters_from : List ℕ → Counters
counters_from n =
    record {
      expired_sessions = get_or n 0 0;
      pool_exhausted = get_or n 1 0;
      rejected_frames = get_or n 2 0;
      lost_fragments = get_or n 3 0;
      unknown_pgn = get_or n 4 0;
    }

unfoldable pub counter_numbers : Counters → List ℕ
counter_numbers c = c.expired_sessions ∷ c.pool_exhausted ∷ c.rejected_frames ∷ c.lost_fragments ∷ c.unknown_pgn ∷ []

-- a message is written over the lent payload, and any other answer leaves it as it was
abbrev pub delivered_on : List ℕ → Kind → List ℕ → List ℕ
delivered_on old ImpossiblePool message = old
delivered_on old TooWide message = old
delivered_on old NotListed message = old
delivered_on old Rejected message = old
delivered_on old PoolFull message = old
delivered_on old Lost message = old
delivered_on old FragmentConsumed message = old
delivered_on old MessageComplete message = message

-- the memory that a caller lends to a receive call
pub record CallMemory : Type 0 where
  pub heads : List ℕ
  pub bytes : List ℕ
  pub counters : List ℕ
  pub payload : List ℕ
  pub length : ℕ

-- what an answer leaves: what is returned, and that memory, from what it was before
pub record CallLeft (r : Received) (before : CallMemory) (code : ℕ) (after : CallMemory) : Type 0 where
  pub told : code ≡ kind_number r.kind
  pub kept : after.heads ≡ laid_over before.heads r.pool.heads
  pub stored : after.bytes ≡ r.pool.bytes
  pub counted : after.counters ≡ counter_numbers r.counters
  pub delivered : after.payload ≡ delivered_on before.payload r.kind r.payload
  pub measured : after.length ≡ r.length

-- the memory that a caller lends for a pool to be made in
pub record PoolMemory : Type 0 where
  pub heads : List ℕ
  pub bytes : List ℕ
  pub size : ℕ
  pub mode : ℕ
  pub kind : ℕ

-- a fresh pool is laid on zeros
unfoldable pub blank_heads : List ℕ
blank_heads = replicate (head_numbers * pool_limit) 0

-- what is made is written over the lent memory, and a refusal leaves it as it was
abbrev pub made_on : List ℕ → Answer ℕ → List ℕ → List ℕ
made_on old (gives size) made = made
made_on old (refuses n carried) made = old

-- what making a pool leaves, by its answer and the pool beside it: what is returned; without a refusal the pool's heads and bytes; its size;
-- and the numbers of its mode and kind
pub record PoolLeft (a : Answer ℕ) (p : Pool) (before : PoolMemory) (code : ℕ) (after : PoolMemory) : Type 0 where
  pub told : code ≡ code_of a
  pub kept : after.heads ≡ made_on before.heads a (laid_over blank_heads p.heads)
  pub stored : after.bytes ≡ made_on before.bytes a p.bytes
  pub sized : after.size ≡ p.size
  pub moded : after.mode ≡ mode_number p.mode
  pub of_kind : after.kind ≡ pool_kind_number p.kind

-- the same of a pool that the code made
abbrev pub MadePoolLeft : Made → PoolMemory → ℕ → PoolMemory → Type 0
MadePoolLeft m before code after = PoolLeft (of_made m) (made_pool m) before code after

-- what making a pool by numbers promises: of the size that is wanted, in the mode and of the kind whose numbers are asked for
abbrev pub MakesPoolAsked : ℕ → ℕ → ℕ → Made → Type 0
MakesPoolAsked wanted mode kind r = MakesPoolOf (pool_kind_from kind) (mode_from mode) (size_under mode kind wanted) r
