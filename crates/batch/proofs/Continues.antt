-- A batch is the single calls one after the other as far as it took frames, and a second batch over the rest goes on where the first stopped.
-- Assumes nothing.
use Rattle.std.proofs.Common.{◌≡◌, ℕ, zero, suc, ◌+◌, ◌*◌, ◌<◌, ◌≤◌, Bool, true, false, ltb, ◌⊎◌, List, length, sym, refl, ap, ◌∙◌, subst, inl, inr, append_assoc, append-nil, arith, length-append, get_or-drop, drop-drop, ltb-true}
use Rattle.base.specs.Pick.{pick}
use Rattle.session.specs.declared.Counters.{Counters}
use Rattle.session.specs.Rules.{Rules}
use Rattle.assembler.specs.declared.Pool.{Pool}
use Rattle.assembler.specs.declared.Received.{Received}
use Rattle.batch.specs.Rows.{Rows, frame_in_rows, Run, empty_run, took, answer_in, run_from, run_of}
use Rattle.batch.specs.Calls.{call_each, rest, joined}

module _ (R : Rules) (l : List ℕ) where
  -- t frames of n were taken: they are t calls, an entry of kinds each; and either that is all, or the next message had no room
  pub record AsFar (w : Rows) (room n i : ℕ) (z y : Run) (t : ℕ) : Type 0 where
    pub few : t ≤ n
    pub same : y ≡ call_each R l w t i z
    pub told : length y.kinds ≡ length z.kinds + t
    pub full : (t ≡ n) ⊎ (room < length y.messages + (answer_in R l y (frame_in_rows w (i + t))).length)

  later : (w : Rows) (room i t n : ℕ) (y : Run) → (t ≡ n) ⊎ (room < length y.messages + (answer_in R l y (frame_in_rows w (suc i + t))).length)
      → (suc t ≡ suc n) ⊎ (room < length y.messages + (answer_in R l y (frame_in_rows w (i + suc t))).length)
  later w room i t n y (inl e) = inl (ap suc e)
  later w room i t n y (inr h) = let k : suc i + t ≡ i + suc t = omega arith in inr (rw k at h)

  -- one frame more, by whether its message has room
  abbrev next : Rows → ℕ → Run → Run
  next w i z = took z (answer_in R l z (frame_in_rows w i))

  far_one : (w : Rows) (room n i : ℕ) (z : Run) (b : Bool) → ltb room (length z.messages + (answer_in R l z (frame_in_rows w i)).length) ≡ b
      → (t : ℕ) × AsFar w room n (suc i) (next w i z) (run_from R l w room n (suc i) (next w i z)) t
      → (t : ℕ) × AsFar w room (suc n) i z (pick b z (run_from R l w room n (suc i) (next w i z))) t
  unfolding pick call_each
  far_one w room n i z true e x =
      let k : i + 0 ≡ i = omega arith in
      (0, record { few = omega arith; same = refl; told = omega arith; full = inr (rw k (ltb-true room _ e)) })
  far_one w room n i z false e x =
      let one : length (next w i z).kinds ≡ length z.kinds + 1 = unfold took in length-append z.kinds _ in (
        suc x.0,
        record {
          few = omega (arith, x.1.few);
          same = x.1.same;
          told = omega (arith, x.1.told, one);
          full = later w room i x.0 n (run_from R l w room n (suc i) (next w i z)) x.1.full;
        },
      )

  far : (w : Rows) (room n i : ℕ) (z : Run) → (t : ℕ) × AsFar w room n i z (run_from R l w room n i z) t
  unfolding run_from call_each
  far w room zero i z = (0, record { few = omega arith; same = refl; told = omega arith; full = inl refl })
  far w room (suc n) i z = far_one w room n i z (ltb room (length z.messages + (answer_in R l z (frame_in_rows w i)).length)) refl (far w room n (suc i) (next w i z))

  -- the frames that a batch took are as many single calls
  pub as_far : (w : Rows) (room : ℕ) (p : Pool) (k : Counters)
      → AsFar w room (length w.times) 0 (empty_run p k) (run_of R l w room p k) (length (run_of R l w room p k).kinds)
  unfolding run_of
  as_far w room p k =
      let x = far w room (length w.times) 0 (empty_run p k) in
      let e : length (run_from R l w room (length w.times) 0 (empty_run p k)).kinds ≡ x.0 = x.1.told ∙ (unfold empty_run in omega arith) in
      subst (AsFar w room (length w.times) 0 (empty_run p k) (run_from R l w room (length w.times) 0 (empty_run p k))) (sym e) x.1

  calls_add : (w : Rows) (t u i : ℕ) (z : Run) → call_each R l w u (i + t) (call_each R l w t i z) ≡ call_each R l w (t + u) i z
  unfolding call_each
  calls_add w zero u i z =
      let a : i + 0 ≡ i = omega arith in
      let b : 0 + u ≡ u = omega arith in
      rw (a, b)
  calls_add w (suc t) u i z =
      let a : i + suc t ≡ suc i + t = omega arith in
      let b : suc t + u ≡ suc (t + u) = omega arith in
      rw (a, b) (calls_add w t u (suc i) (took z (answer_in R l z (frame_in_rows w i))))

  -- calls after other calls
  took_joined : (y x : Run) (a : Received) → took (joined y x) a ≡ joined y (took x a)
  unfolding took joined
  took_joined y x a = simp append_assoc

  calls_joined : (w : Rows) (u i : ℕ) (y x : Run) → call_each R l w u i (joined y x) ≡ joined y (call_each R l w u i x)
  unfolding call_each
  calls_joined w zero i y x = refl
  calls_joined w (suc u) i y x =
      let same : answer_in R l (joined y x) (frame_in_rows w i) ≡ answer_in R l x (frame_in_rows w i) = unfold answer_in joined in refl in
      rw (same, took_joined y x (answer_in R l x (frame_in_rows w i))) (calls_joined w u (suc i) y (took x (answer_in R l x (frame_in_rows w i))))

  joined_start : (y : Run) → joined y (empty_run y.pool y.counters) ≡ y
  unfolding joined empty_run
  joined_start y = rw (append-nil y.kinds, append-nil y.lengths, append-nil y.messages)

  -- calls over the rest of the rows
  frame_rest : (w : Rows) (t i : ℕ) → frame_in_rows (rest t w) i ≡ frame_in_rows w (t + i)
  unfolding frame_in_rows rest
  frame_rest w t i =
      let k : t * 8 + i * 8 ≡ (t + i) * 8 = omega arith in
      rw (get_or-drop t w.times i 0, get_or-drop t w.pgns i 0, get_or-drop t w.sources i 0, drop-drop (i * 8) (t * 8) w.bytes, k)

  calls_rest : (w : Rows) (t u i : ℕ) (z : Run) → call_each R l (rest t w) u i z ≡ call_each R l w u (t + i) z
  unfolding call_each
  calls_rest w t zero i z = refl
  calls_rest w t (suc u) i z =
      let k : t + suc i ≡ suc (t + i) = omega arith in
      rw (frame_rest w t i, ← k) (calls_rest w t u (suc i) (took z (answer_in R l z (frame_in_rows w (t + i)))))

  -- a second batch, over the rest of the rows and with what the first left, continues it: together they are the single calls that both took
  pub continues : (w : Rows) (room room' : ℕ) (p : Pool) (k : Counters) (y z : Run) → y ≡ run_of R l w room p k → z ≡ run_of R l (rest (length y.kinds) w) room' y.pool y.counters
      → joined y z ≡ call_each R l w (length y.kinds + length z.kinds) 0 (empty_run p k)
  continues w room room' p k y z ey ez =
      let t : ℕ = length y.kinds in
      let u : ℕ = length z.kinds in
      let first : y ≡ call_each R l w t 0 (empty_run p k) = ey ∙ rw ey (as_far w room p k).same in
      let second : z ≡ call_each R l (rest t w) u 0 (empty_run y.pool y.counters) = ez ∙ rw ez (as_far (rest t w) room' y.pool y.counters).same in
      let a : t + 0 ≡ 0 + t = omega arith in
      ap (joined y) (second ∙ calls_rest w t u 0 (empty_run y.pool y.counters))
      ∙ sym (calls_joined w u (t + 0) y (empty_run y.pool y.counters))
      ∙ ap (call_each R l w u (t + 0)) (joined_start y)
      ∙ rw a (ap (call_each R l w u (0 + t)) first)
      ∙ calls_add w t u 0 (empty_run p k)
