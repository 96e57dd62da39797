use Rattle.std.proofs.Common.{◌∙◌, option_map, ap, sym}
use Rattle.croner.specs.Views.{job_of}
use Rattle.crontab.specs.Entries.{entry_seen}
use Rattle.croncheck_reading.proofs.Kept.{if_found}
use Rattle.croncheck_reading.proofs.same.Seen.first_same.Goals as goal

pub returns-in_ok-owner_of-in-Some-clause-found : goal.returns-in_ok-owner_of-in-Some-clause-found
returns-in_ok-owner_of-in-Some-clause-found c = λ compares.
    if_found (entry_seen c.args.entry.now) c.args.outcome.now (c.in_ok-owner_of-in-Some.field-0, c.in-Some.job)
    (c.args.place.file.now, c.args.place.line) c.args.self.now c.first_same_job.new.self c.first_same_job.result
    (ap (option_map job_of) (sym c.in-Some.is) ∙ c.in_ok-job.ensures) c.in_ok-owner_of-in-Some.ensures c.first_same_job.ensures.found
