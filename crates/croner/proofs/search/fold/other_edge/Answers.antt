use Rattle.std.proofs.Common.{arith}
use Rattle.croner.proofs.zone.ErrorsKept.{error_kept, backend_error}
use Rattle.croner.proofs.zone.HalfEdges.{bisect_start, bisect_out, none_within, edge_found, holds_there}
use Rattle.croner.proofs.search.fold.other_edge.Goals as goal

pub returns-then-branch-clause-value : goal.returns-then-branch-clause-value
returns-then-branch-clause-value g c =
    none_within c.args.direction (g.T.CronDateTime.moment c.args.start.now) _ c.if-branch.true c.in_ok-is_offset_on_first_half.ensures.value

pub loop-outside-init : goal.loop-outside-init
loop-outside-init g c =
    bisect_start c.args.direction (g.T.CronDateTime.moment c.args.start.now) _ c.if-branch.false c.in_ok-is_offset_on_first_half.ensures.value

pub loop-outside-preserved : goal.loop-outside-preserved
loop-outside-preserved g c =
    let m = g.T.CronDateTime.moment c.args.start.now in
    let o = c.loop-outside.invariant.ordered in
    let t = c.loop-outside-test.true in
    bisect_out c.args.direction m c.in_ok-is_offset_on_first_half-2.field-0 c.loop-outside.inside c.loop-outside.outside _ c.loop-outside.invariant (omega arith) (omega arith) c.if-branch-2.false c.in_ok-is_offset_on_first_half-2.ensures.value

pub returns-clause-value : goal.returns-clause-value
returns-clause-value g c =
    let o = c.loop-outside.invariant.ordered in
    let t = c.loop-outside-test.false in
    edge_found g.T.CronDateTime.moment c.args.direction (g.T.CronDateTime.moment c.args.start.now) c.loop-outside.inside c.loop-outside.outside _ c.loop-outside.invariant (omega arith) c.in_ok-edge.ensures.value

pub returns-in_err-edge-clause-err : goal.returns-in_err-edge-clause-err
returns-in_err-edge-clause-err g c =
    error_kept c.from_residual-in_err-edge.result c.in_err-edge.field-0.0 _ c.from_residual-in_err-edge.ensures.1
    (backend_error _ _ _ _ (λ stuck start. holds_there c.args.direction (g.T.CronDateTime.moment c.args.start.now) c.loop-outside.outside c.loop-outside.invariant.margin stuck) c.in_err-edge.ensures.err)
