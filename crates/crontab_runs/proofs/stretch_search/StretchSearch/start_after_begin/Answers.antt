use Rattle.std.proofs.Common.{subst, rules, ◌∙◌, ◌+ℤ◌, w64, FitsSigned}
use Rattle.std.proofs.lemmas.Int.{to_z-of_z}
use Rattle.croner_base.specs.declared.time.Direction.{Direction}
use Rattle.croner.specs.Views.{job_of}
use Rattle.crontab_runs.specs.Private.Found.{least_in}
use Rattle.crontab_runs.specs.Private.Nearest.{NoneNamed}
use Rattle.crontab_runs.specs.Private.Parts.{minute_from}
use Rattle.crontab_runs.proofs.PartStarts.{none_after_begin}
use Rattle.crontab_runs.proofs.stretch_search.StretchSearch.start_after_begin.Goals as goal

pub returns-in-None : goal.returns-in-None
returns-in-None c =
    let p = c.args.self.now in
    let m = job_of p.job.now.cron in
    let from : FitsSigned w64 c.minute_from.result = search rules in
    let at = to_z-of_z w64 c.minute_from.result from ∙ c.minute_from.ensures in
    none_after_begin p (subst (λ (d : Direction). NoneNamed d m (minute_from p.direction (p.from +ℤ p.stretch.offset) (least_in p))) c.requires.1 (subst (NoneNamed c.args.known.now.direction m) at c.in-None.ensures))
