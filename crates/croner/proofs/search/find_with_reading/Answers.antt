use Rattle.croner.proofs.zone.ErrorsKept.{error_kept}
use Rattle.croner.proofs.zone.SearchLimit.{refused_walk}
use Rattle.croner.proofs.search.find_with_reading.Goals as goal

pub returns-in_err-first-clause-refused : goal.returns-in_err-first-clause-refused
returns-in_err-first-clause-refused g c =
    error_kept c.from_residual.result c.in_err-first.field-0.0 _ c.from_residual.ensures.1 (refused_walk _ _ _ _ _ _ c.in_err-first.ensures.err)
