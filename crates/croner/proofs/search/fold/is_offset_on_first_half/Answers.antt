use Rattle.std.proofs.lemmas.Result.{IfErr-weaker}
use Rattle.croner.proofs.zone.ErrorsKept.{error_kept, backend_error}
use Rattle.croner.proofs.zone.HalfEdges.{test_moved, holds_there, holds_second_there}
use Rattle.croner.proofs.search.fold.is_offset_on_first_half.Goals as goal

pub returns-in_err-there-clause-err : goal.returns-in_err-there-clause-err
returns-in_err-there-clause-err g c =
    error_kept c.from_residual.result c.in_err-there.field-0.0 _ c.from_residual.ensures.1
    (backend_error _ _ _ _ (λ stuck start. holds_there c.args.direction (g.T.CronDateTime.moment c.args.start.now) c.args.seconds c.requires stuck) c.in_err-there.ensures.err)

pub returns-clause-value : goal.returns-clause-value
returns-clause-value g c =
    test_moved c.args.direction (g.T.CronDateTime.moment c.args.start.now) _ c.args.seconds _ c.in_ok-there.ensures.value c.is_on_first_half.ensures.value

pub returns-clause-err : goal.returns-clause-err
returns-clause-err g c =
    IfErr-weaker c.is_on_first_half.result _ _
    (λ e. backend_error _ _ _ _ (holds_second_there c.args.direction (g.T.CronDateTime.moment c.args.start.now) _ c.args.seconds c.requires c.in_ok-there.ensures.value))
    c.is_on_first_half.ensures.err
