-- `batching::process_frames` meets its contract: after i frames the code's state is the run's, and each frame more is a step of it. Assumes nothing.
use Rattle.std.proofs.Common.{◌≡◌, ℕ, Bool, List, slice_index, sym, ◌∙◌, arith}
use Rattle.session.specs.Rules.{rules_by}
use Rattle.session.proofs.SearchLaws.{same_limit}
use Rattle.assembler.proofs.Copies.{length_unmap}
use Rattle.assembler.proofs.Views.{Whole}
use Rattle.fast_packet.specs.FastPacket.{listed_in}
use Rattle.session.specs.declared.Heard.{Heard}
use Rattle.batch.specs.Rows.{Rows, frame_in_rows}
use Rattle.batch.specs.inner.Ways.{blank_heard}
use Rattle.batch.proofs.RowLaws.{has_room}
use Rattle.batch.proofs.WayLaws.{run_missing}
use Rattle.batch.proofs.Runs.{begins, ends, gives_refused, gives_run, possible, own_kind, fits_all}
use Rattle.batch.proofs.Promised.{batched, batch_refused}
use Rattle.batch.proofs.Sought.{small_of}
use Rattle.batch.proofs.Steps.{step_unlisted, step_missed, stop_short, step_short, runs_fit, step_running, plan_fits, stop_by, step_by}
use Rattle.std.proofs.Common.{rules}
use Rattle.batch.proofs.batching.process_frames.Goals as goal

-- that the list has the PGN of a row is that it has the frame's
of_frame : {t : Bool} {f : Heard} (w : Rows) (i : ℕ) (pgns : List ℕ) → f ≡ frame_in_rows w i → t ≡ listed_in (slice_index w.pgns i) pgns → t ≡ listed_in f.pgn pgns
unfolding frame_in_rows
of_frame w i pgns e l = l ∙ rw e

pub returns-in-Err : goal.returns-in-Err
returns-in-Err c = let a = c.args in
    batch_refused _ (gives_refused (rules_by a.pool.kind a.pool.mode) _ _ a.pool _ _ _ _ (same_limit a.pool.kind a.pool.mode) blank_heard _ c.refusal.ensures _ c.in-Err.is)

pub of-mirror-requires : goal.of-mirror-requires
of-mirror-requires c = let a = c.args in
    let rows : Rows = record { times = a.frames.times.now; pgns = a.frames.pgns.now; sources = a.frames.sources.now; bytes = a.frames.data.now } in
    small_of a.pool.kind a.pool.mode a.pool (possible (rules_by a.pool.kind a.pool.mode) a.pgns.now rows a.pool a.counters a.kinds.now a.lengths.now a.arena.now (same_limit a.pool.kind a.pool.mode) blank_heard _ c.refusal.ensures c.in_default.not-Err)

pub loop-i-init : goal.loop-i-init
loop-i-init c = let a = c.args in
    let rows : Rows = record { times = a.frames.times.now; pgns = a.frames.pgns.now; sources = a.frames.sources.now; bytes = a.frames.data.now } in
    let rules-now = rules_by a.pool.kind a.pool.mode in
    let limit = same_limit a.pool.kind a.pool.mode in
    let whole : Whole a.pool = record { heads = search (rules, length_unmap); bytes = search rules } in (
      record {
        run = begins rules-now _ _ _ _ _ _ _ whole (fits_all rules-now a.pgns.now rows a.pool a.counters a.kinds.now a.lengths.now a.arena.now limit blank_heard _ c.refusal.ensures c.in_default.not-Err);
        own = own_kind rules-now a.pgns.now rows a.pool a.counters a.kinds.now a.lengths.now a.arena.now limit blank_heard _ c.refusal.ensures c.in_default.not-Err;
        possible = possible rules-now a.pgns.now rows a.pool a.counters a.kinds.now a.lengths.now a.arena.now limit blank_heard _ c.refusal.ensures c.in_default.not-Err;
        mirrors = c.of-mirror.ensures.0;
      },
      c.of-mirror.ensures.1,
      c.of-list.ensures,
    )

pub loop-i-preserved-then-not-has : goal.loop-i-preserved-then-not-has
loop-i-preserved-then-not-has c = let inv = c.loop-i.invariant in
    (step_unlisted _ _ _ _ _ _ _ _ _ _ _ _ _ _ _ _ _ _ _ inv.0 c.loop-i-test.true (sym c.if-not-has.true ∙ (rw inv.2 at c.has.ensures.0)) _ c.number.ensures _ c.count-c.ensures, inv.1, rw c.has.ensures.1 inv.2)

pub loop-i-preserved-then-short-eq0 : goal.loop-i-preserved-then-short-eq0
loop-i-preserved-then-short-eq0 c = let inv = c.loop-i.invariant in
    let listed = of_frame _ _ _ c.frame_at-heard.ensures (sym c.if-not-has.false ∙ (rw inv.2 at c.has.ensures.0)) in
    let sought = rw inv.1 at c.in_default-seek.ensures.0 in
    (step_missed _ _ _ _ _ _ _ _ _ _ _ _ _ _ _ _ _ _ _ inv.0 c.loop-i-test.true _ c.frame_at-heard.ensures _ listed c.in_default-seek.ensures.2 _ sought (omega arith) _ c.short_in-short.ensures.0 c.if-short-eq0.true _ c.missed-kind.ensures.0 _ c.number-then-short-eq0.ensures _ (rw (← c.missed-kind.ensures.1) c.count-c-then-short-eq0.ensures), inv.1, rw c.has.ensures.1 inv.2)

pub returns-then-no_room : goal.returns-then-no_room
returns-then-no_room c = let inv = c.loop-i.invariant in
    let listed = of_frame _ _ _ c.frame_at-heard.ensures (sym c.if-not-has.false ∙ (rw inv.2 at c.has.ensures.0)) in
    let sought = rw inv.1 at c.in_default-seek.ensures.0 in
    batched (gives_run (rules_by c.args.pool.kind c.args.pool.mode) _ _ c.args.pool _ _ _ _ (same_limit c.args.pool.kind c.args.pool.mode) blank_heard _ c.refusal.ensures c.in_default.not-Err _
    (stop_short _ _ _ _ _ _ _ _ _ _ _ _ _ _ _ _ _ _ _ inv.0 c.loop-i-test.true _ c.frame_at-heard.ensures _ listed c.in_default-seek.ensures.2 _ sought (omega arith) _ c.short_in-short.ensures.0 c.if-short-eq0.false _ c.no_room.ensures c.if-no_room.true))

pub loop-i-preserved-in_default-seek : goal.loop-i-preserved-in_default-seek
loop-i-preserved-in_default-seek c = let inv = c.loop-i.invariant in
    let listed = of_frame _ _ _ c.frame_at-heard.ensures (sym c.if-not-has.false ∙ (rw inv.2 at c.has.ensures.0)) in
    let sought = rw inv.1 at c.in_default-seek.ensures.0 in
    (step_short _ _ _ _ _ _ _ _ _ _ _ _ _ _ _ _ _ _ _ inv.0 c.loop-i-test.true _ c.frame_at-heard.ensures _ listed c.in_default-seek.ensures.2 _ sought (omega arith) _ c.short_in-short.ensures.0 c.if-short-eq0.false _ c.no_room.ensures c.if-no_room.false _ c.deliver.ensures _ c.number-in_default-seek.ensures, inv.1, rw c.has.ensures.1 inv.2)

pub ran_on-requires : goal.ran_on-requires
ran_on-requires c = run_missing _ _ (sym c.runs_on.ensures ∙ c.if-runs_on.true)

pub keep-requires : goal.keep-requires
keep-requires c = let inv = c.loop-i.invariant in
    let listed = of_frame _ _ _ c.frame_at-heard.ensures (sym c.if-not-has.false ∙ (rw inv.2 at c.has.ensures.0)) in
    let sought = rw inv.1 at c.in-Some.ensures.0 in
    (c.in-Some.ensures.1, runs_fit _ _ _ _ _ _ _ _ _ _ _ _ _ _ _ _ _ _ _ inv.0 c.loop-i-test.true _ c.frame_at-heard.ensures _ listed c.in-Some.ensures.2 _ sought c.in-Some.ensures.1 _ _ c.runs_on.ensures c.if-runs_on.true)

pub loop-i-preserved-then-runs_on : goal.loop-i-preserved-then-runs_on
loop-i-preserved-then-runs_on c = let inv = c.loop-i.invariant in
    let listed = of_frame _ _ _ c.frame_at-heard.ensures (sym c.if-not-has.false ∙ (rw inv.2 at c.has.ensures.0)) in
    let sought = rw inv.1 at c.in-Some.ensures.0 in
    let heard = c.hear.ensures in
    (rw (heard.0, heard.1, heard.2) (step_running _ _ _ _ _ _ _ _ _ _ _ _ _ _ _ _ _ _ _ inv.0 c.loop-i-test.true _ c.frame_at-heard.ensures _ listed c.in-Some.ensures.2 _ sought c.in-Some.ensures.1 _ _ c.runs_on.ensures c.if-runs_on.true _ c.ran_on.ensures _ c.keep.ensures _ c.number-then-runs_on.ensures), heard.3 ∙ inv.1, rw c.has.ensures.1 inv.2)

pub returns-then-no_room-2 : goal.returns-then-no_room-2
returns-then-no_room-2 c = let inv = c.loop-i.invariant in
    let listed = of_frame _ _ _ c.frame_at-heard.ensures (sym c.if-not-has.false ∙ (rw inv.2 at c.has.ensures.0)) in
    let sought = rw inv.1 at c.in-Some.ensures.0 in
    batched (gives_run (rules_by c.args.pool.kind c.args.pool.mode) _ _ c.args.pool _ _ _ _ (same_limit c.args.pool.kind c.args.pool.mode) blank_heard _ c.refusal.ensures c.in_default.not-Err _
    (stop_by _ _ _ _ _ _ _ _ _ _ _ _ _ _ _ _ _ _ _ inv.0 c.loop-i-test.true _ c.frame_at-heard.ensures _ listed c.in-Some.ensures.2 _ sought c.in-Some.ensures.1 _ _ c.decide-d.ensures _ c.no_room-in-loop-i.ensures c.if-no_room-2.true))

pub carry-requires : goal.carry-requires
carry-requires c = let inv = c.loop-i.invariant in
    let listed = of_frame _ _ _ c.frame_at-heard.ensures (sym c.if-not-has.false ∙ (rw inv.2 at c.has.ensures.0)) in
    let sought = rw inv.1 at c.in-Some.ensures.0 in
    let fits = plan_fits _ _ _ _ _ _ _ _ _ _ _ _ _ _ _ _ _ _ _ inv.0 c.loop-i-test.true _ c.frame_at-heard.ensures _ listed c.in-Some.ensures.2 _ sought c.in-Some.ensures.1 _ _ c.decide-d.ensures in
    (c.in-Some.ensures.1, fits.room, fits.there, fits.whole, has_room _ c.loop-i.used _ _ c.no_room-in-loop-i.ensures c.if-no_room-2.false)

pub overflow_cast-lengths-in-loop-i : goal.overflow_cast-lengths-in-loop-i
overflow_cast-lengths-in-loop-i c = let inv = c.loop-i.invariant in
    let listed = of_frame _ _ _ c.frame_at-heard.ensures (sym c.if-not-has.false ∙ (rw inv.2 at c.has.ensures.0)) in
    let sought = rw inv.1 at c.in-Some.ensures.0 in
    let fits = plan_fits _ _ _ _ _ _ _ _ _ _ _ _ _ _ _ _ _ _ _ inv.0 c.loop-i-test.true _ c.frame_at-heard.ensures _ listed c.in-Some.ensures.2 _ sought c.in-Some.ensures.1 _ _ c.decide-d.ensures in
    omega (arith, fits.whole)

pub loop-i-preserved : goal.loop-i-preserved
loop-i-preserved c = let inv = c.loop-i.invariant in
    let listed = of_frame _ _ _ c.frame_at-heard.ensures (sym c.if-not-has.false ∙ (rw inv.2 at c.has.ensures.0)) in
    let sought = rw inv.1 at c.in-Some.ensures.0 in
    let shown = c.show.ensures in (
      step_by _ _ _ _ _ _ _ _ _ _ _ _ _ _ _ _ _ _ _ inv.0 c.loop-i-test.true _ c.frame_at-heard.ensures _ listed c.in-Some.ensures.2 _ sought c.in-Some.ensures.1 _ _ c.decide-d.ensures _ c.no_room-in-loop-i.ensures c.if-no_room-2.false _ c.carry.ensures.0 _ c.carry.ensures.1 _ c.number-in-loop-i.ensures _ c.count-c-in-loop-i.ensures _ _ _ shown.0 shown.1 shown.2 shown.4,
      shown.3 ∙ inv.1,
      rw c.has.ensures.1 inv.2,
    )

pub returns : goal.returns
returns c = batched (gives_run (rules_by c.args.pool.kind c.args.pool.mode) _ _ c.args.pool _ _ _ _ (same_limit c.args.pool.kind c.args.pool.mode) blank_heard _ c.refusal.ensures c.in_default.not-Err _
    (ends (rules_by c.args.pool.kind c.args.pool.mode) _ _ _ _ _ _ _ _ _ _ _ _ _ _ c.loop-i.invariant.0.run c.loop-i-test.false))
