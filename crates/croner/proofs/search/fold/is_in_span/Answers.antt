use Rattle.croner.proofs.zone.ErrorsKept.{error_kept, backend_error}
use Rattle.croner.proofs.zone.HalfEdges.{outside_span, alone_in_span, across_in_span, refuted, start_within, start_outside}
use Rattle.croner.proofs.zone.SearchLimit.{holds_here}
use Rattle.croner.proofs.search.fold.is_in_span.Goals as goal

pub returns-then-not-is_within-clause-value : goal.returns-then-not-is_within-clause-value
returns-then-not-is_within-clause-value g c = λ calm.
    let m = g.T.CronDateTime.moment c.args.run.now in
    outside_span c.args.direction m (start_outside _ m _ _ c.if-not-is_within.true c.to_civil-shown.ensures c.is_within.ensures)

pub returns-in_err-is_on_first_half-clause-err : goal.returns-in_err-is_on_first_half-clause-err
returns-in_err-is_on_first_half-clause-err g c =
    error_kept c.from_residual.result c.in_err-is_on_first_half.field-0.0 _ c.from_residual.ensures.1
    (backend_error _ _ _ _ (λ stuck h. stuck (holds_here (g.T.CronDateTime.moment c.args.run.now) h)) c.in_err-is_on_first_half.ensures.err)

pub returns-then-not-branch-clause-value : goal.returns-then-not-branch-clause-value
returns-then-not-branch-clause-value g c = λ calm.
    let m = g.T.CronDateTime.moment c.args.run.now in
    let within = start_within _ m _ _ c.if-not-is_within.false c.to_civil-shown.ensures c.is_within.ensures in
    alone_in_span c.args.direction m _ within c.opposite_way-back.ensures (refuted _ _ c.if-not-branch.true (c.in_ok-is_on_first_half.ensures.value calm)) calm

pub returns-clause-value : goal.returns-clause-value
returns-clause-value g c = λ calm.
    let m = g.T.CronDateTime.moment c.args.run.now in
    let within = start_within _ m _ _ c.if-not-is_within.false c.to_civil-shown.ensures c.is_within.ensures in
    let edge = rw c.in-Some.is at c.in_ok-edge.ensures.value in
    across_in_span c.args.direction m g.T.CronDateTime.moment _ c.in-Some.edge _ _ within c.opposite_way-back.ensures
    ((c.in_ok-is_on_first_half.ensures.value calm).0 c.if-not-branch.false) edge c.to_civil.ensures c.is_within-2.ensures calm
