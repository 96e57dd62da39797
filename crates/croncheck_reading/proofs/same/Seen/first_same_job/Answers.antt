use Rattle.std.proofs.Common.{◌∙◌, ap, sym, option_map}
use Rattle.croncheck_report.specs.Report.{file_and_line}
use Rattle.croncheck_reading.proofs.Kept.{finds_kept, finds_none}
use Rattle.croncheck_reading.proofs.same.Seen.first_same_job.Goals as goal

pub returns-in-Some-clause-found : goal.returns-in-Some-clause-found
returns-in-Some-clause-found c =
    finds_kept c.args.self.now (c.args.words, c.args.job) (c.args.place.file.now, c.args.place.line) c.in-Some.same
    (ap (option_map file_and_line) (sym c.in-Some.is) ∙ c.in_ok-same.ensures)

pub returns-in_ok-keep-in-None-clause-found : goal.returns-in_ok-keep-in-None-clause-found
returns-in_ok-keep-in-None-clause-found c =
    finds_none c.args.self.now c.keep.new.self (c.args.words, c.args.job) (c.args.place.file.now, c.args.place.line)
    (ap (option_map file_and_line) (sym c.in-None.is) ∙ c.in_ok-same.ensures) c.in_ok-keep-in-None.ensures.kept
