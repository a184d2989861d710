-- A promise and the equation that it stands for: each gives the other. Assumes nothing.
use Prim.Native.Nat.{ℕ}
use mathlib.Core.List.{List, []}
use Rattle.std.proofs.Common.{Result as ResultOf, Ok, Err}
use mathlib.Core.Path.{◌≡◌, refl, sym, ap, subst, ◌∙◌}
use Rattle.base.specs.Answer.{Answer, gives, refuses}
use Rattle.base.specs.Pick.{pick}
use Rattle.can_id.specs.declared.CanIdReadError.{CanIdReadError}
use Rattle.can_id.specs.declared.CanIdReadError.TheVariants.{TooWide}
use Rattle.session.specs.declared.Counters.{Counters}
use Rattle.session.specs.declared.Heard.{Heard}
use Rattle.session.specs.declared.Kind.{Kind}
use Rattle.session.specs.declared.Mode.{Mode}
use Rattle.session.specs.declared.PoolKind.{PoolKind}
use Rattle.session.specs.declared.Kind.TheVariants as kind
use Rattle.session.specs.declared.Kind.TheVariants.{NotListed, Rejected, PoolFull, Lost, FragmentConsumed, MessageComplete}
use Rattle.assembler.specs.declared.ImpossiblePool.{ImpossiblePool}
use Rattle.assembler.specs.declared.Pool.{Pool}
use Rattle.assembler.specs.declared.Processed.{Processed}
use Rattle.assembler.specs.declared.Received.{Received}
use Rattle.assembler.specs.Making.{size_made, pool_made, of_made, made_pool, MakesPoolOf}
use Rattle.assembler.specs.Arrivals.{of_heard}
use Rattle.assembler.specs.View.{why_kind, reply_kind, reply_payload, reply_length, reply_by, reply_of}
use Rattle.assembler.specs.Promises.{entered, Result, Answers, answer_to, ReceivesHeard, ProcessesHeard}
use Rattle.assembler.specs.inner.Forms.{processed_of, refused_as}
use Rattle.assembler.proofs.Entries.{Known, frame, wide, known_entered, answer_refused, answer_back}

-- ---- a pool made

-- the answer that 01's answer and the pool name
unfoldable pub made_as : Answer ℕ → Pool → ResultOf Pool ImpossiblePool
made_as (gives n) p = Ok p
made_as (refuses k carried) p = Err (record { pool = p })

made_back : (r : ResultOf Pool ImpossiblePool) → made_as (of_made r) (made_pool r) ≡ r
unfolding of_made made_pool made_as
made_back (Ok p) = refl
made_back (Err e) = refl

pub made_by : (kind : PoolKind) (mode : Mode) (wanted : ℕ) {r : ResultOf Pool ImpossiblePool} → MakesPoolOf kind mode wanted r → r ≡ made_as (size_made wanted) (pool_made kind mode (size_made wanted))
made_by kind mode wanted {r} h = sym (made_back r) ∙ ap (λ (a : Answer ℕ). made_as a (made_pool r)) h.answer ∙ ap (made_as (size_made wanted)) h.left

-- ---- the receive call

-- 01's numbers give the kind back
kind_back : (kind : Kind) (payload : List ℕ) (length : ℕ) → reply_kind (reply_by kind payload length) ≡ kind
unfolding reply_kind why_kind reply_by pick
kind_back kind.ImpossiblePool payload length = refl
kind_back kind.TooWide payload length = refl
kind_back NotListed payload length = refl
kind_back Rejected payload length = refl
kind_back PoolFull payload length = refl
kind_back Lost payload length = refl
kind_back FragmentConsumed payload length = refl
kind_back MessageComplete payload length = refl

module _ {o : Result} {kind : Kind} {payload : List ℕ} {length : ℕ} {pool : Pool} (h : Answers o kind payload length pool) where
  kind_of : kind ≡ reply_kind o.reply
  kind_of = sym (kind_back kind payload length) ∙ ap reply_kind h.told

  answer_is : ◌≡◌ {A = Processed} (record { kind = kind; payload = payload; length = length; pool = pool }) (record { kind = reply_kind o.reply; payload = reply_payload o.reply; length = reply_length o.reply; pool = o.pool })
  answer_is = rw (kind_of, h.bytes, h.size, h.left) refl

module _ (pgns : List ℕ) (a : Answer Heard) (p : Pool) (k : Counters) where
  pub received_by : {r : Received} → ReceivesHeard pgns a p k r → r ≡ answer_to pgns a p k
  unfolding answer_to
  received_by {r} h = rw (kind_of h.answer, h.answer.bytes, h.answer.size, h.answer.left, h.counted) refl

  the_call : Known a → ReceivesHeard pgns a p k (answer_to pgns a p k)
  unfolding answer_to
  the_call known =
      record {
        answer = record { told = unfold answer_to reply_of in answer_back pgns p k known; bytes = refl; size = refl; left = refl };
        counted = refl;
      }

  pub promised : Known a → {r : Received} → r ≡ answer_to pgns a p k → ReceivesHeard pgns a p k r
  promised known e = subst (ReceivesHeard pgns a p k) (sym e) (the_call known)

  -- with the counters lent
  pub processed_by : {r : Processed} {after : Counters} → ProcessesHeard pgns a p k r after
      → (r ≡ processed_of (answer_to pgns a p k)) × (after ≡ (answer_to pgns a p k).counters)
  unfolding answer_to
  processed_by h = (answer_is h.answer, h.counted)

  pub process_promised : Known a → {r : Processed} {after : Counters} → r ≡ processed_of (answer_to pgns a p k) → after ≡ (answer_to pgns a p k).counters
      → ProcessesHeard pgns a p k r after
  process_promised known {r} {after} e c =
      subst (λ (x : Processed). ProcessesHeard pgns a p k x after) (sym e)
      (record { answer = (the_call known).answer; counted = c ∙ (the_call known).counted })

-- of a frame that is turned into what the steps hear
module _ (pgns : List ℕ) (entry : PoolKind) (p : Pool) (k : Counters) where
  pub promised_as : {a b : Answer Heard} → Known a → b ≡ a → {r : Received} → r ≡ answer_to pgns (entered entry p b) p k → ReceivesHeard pgns (entered entry p a) p k r
  promised_as {a} known e h = promised pgns (entered entry p a) p k (known_entered entry p known) (h ∙ ap (λ (x : Answer Heard). answer_to pgns (entered entry p x) p k) e)

refused_wide : (pgns : List ℕ) (entry : PoolKind) (p : Pool) (k : Counters) → refused_as kind.TooWide p k ≡ answer_to pgns (entered entry p (refuses 8 [])) p k
unfolding entered reply_kind pick
refused_wide pgns entry p k = sym (answer_refused pgns p k 8 [])

-- by what a form of the call hears of its frame
module _ (pgns : List ℕ) (entry : PoolKind) (p : Pool) (k : Counters) (a : Answer Heard) (o : ResultOf Heard CanIdReadError) (eo : of_heard o ≡ a) where
  pub heard_taken : (f : Heard) {b : PoolKind} {r : Received} → o ≡ Ok f → b ≡ entry → r ≡ answer_to pgns (entered b p (gives f)) p k → ReceivesHeard pgns (entered entry p a) p k r
  heard_taken f e eb h =
      let same : gives f ≡ a = rw e at eo in
      promised_as pgns entry p k (subst Known same (frame f)) same (rw (eb) at h)

  pub heard_refused : (e : CanIdReadError) {r : Received} → o ≡ Err e → r ≡ refused_as kind.TooWide p k → ReceivesHeard pgns (entered entry p a) p k r
  heard_refused TooWide e h =
      let same : refuses 8 [] ≡ a = rw e at eo in
      promised_as pgns entry p k (subst Known same wide) same (h ∙ refused_wide pgns entry p k)
