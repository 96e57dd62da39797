use Rattle.std.proofs.Common.{inl, inr, refl}
use Rattle.croner.specs.Private.search.Sought.{start_of}
use Rattle.croner.proofs.zone.ErrorsKept.{error_kept, backend_error}
use Rattle.croner.proofs.zone.SearchLimit.{holds_here}
use Rattle.croner.proofs.search.Search.other_half.Goals as goal

pub returns-in_err-is_on_first_half-clause-err : goal.returns-in_err-is_on_first_half-clause-err
returns-in_err-is_on_first_half-clause-err g c =
    error_kept c.from_residual.result c.in_err-is_on_first_half.field-0.0 _ c.from_residual.ensures.1
    (inr (backend_error _ _ _ _ (λ stuck h. stuck (holds_here (start_of g.T.CronDateTime.moment c.args.self.now) h)) c.in_err-is_on_first_half.ensures.err))

pub returns-in_err-edge-clause-err : goal.returns-in_err-edge-clause-err
returns-in_err-edge-clause-err g c =
    error_kept c.from_residual-in_err-edge.result c.in_err-edge.field-0.0 _ c.from_residual-in_err-edge.ensures.1
    (inr (backend_error _ _ _ _ (λ stuck h. stuck h.starts h.held) c.in_err-edge.ensures.err))

pub returns-in-None-clause-err : goal.returns-in-None-clause-err
returns-in-None-clause-err g c =
    let test = c.in_ok-is_on_first_half.ensures.value in
    let none = rw c.in-None.is at c.in_ok-edge.ensures.value in
    inl (refl, λ calm. none calm ((test calm).0 c.if-not-branch.false))
