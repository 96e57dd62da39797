use Rattle.std.proofs.Common.{◌∙◌, ap, nat_eq}
use Rattle.std.proofs.lemmas.List.Filters.{dedup_is}
use Rattle.std.specs.List.{dedup}
use Rattle.cronplan.proofs.together.jobs_of.Goals as goal

pub returns : goal.returns
returns c = dedup_is nat_eq _ _ c.dedup.ensures.filtered ∙ ap (dedup nat_eq) c.in_ok-jobs.ensures
