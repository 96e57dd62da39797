use Rattle.std.proofs.Common.{List, [], ◌∷◌, ◌++◌, map, ap, ◌∙◌}
use Rattle.std.proofs.lemmas.List.{map_push}
use Rattle.croner.specs.declared.job.Cron.{Cron}
use Rattle.croner.specs.Views.{job_of}
use Rattle.croner.proofs.crontable.CronTable.push.Goals as goal

pub returns-clause-appended : goal.returns-clause-appended
returns-clause-appended c =
    let items = c.push_reserved.ensures.items ∙ ap (λ (xs : List Cron). xs ++ c.args.job ∷ []) c.reserve.ensures.items in
    ap (map job_of) items ∙ map_push job_of c.args.self.now.jobs.items c.args.job
