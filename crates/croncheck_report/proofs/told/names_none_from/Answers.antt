use Rattle.std.proofs.Common.{◌≡◌, ◌<◌, ◌&&◌, pos, int_le, false, arith}
use Rattle.croner_base.specs.Limits.{last_year}
use Rattle.croner_pattern.specs.Schedule.{is_year_matching}
use Rattle.croner.specs.Views.{job_of}
use Rattle.croncheck_report.proofs.Years.{none_before_next, none_is}
use Rattle.croncheck_report.proofs.told.names_none_from.Goals as goal

pub loop-year-preserved : goal.loop-year-preserved
loop-year-preserved c =
    let here : (int_le c.args.shown.date.year (pos c.loop-year.year) && is_year_matching (job_of c.args.job.now) (pos c.loop-year.year)) ≡ false =
    cc (c.names_from.ensures, c.if-names_from.false) in
    none_before_next (job_of c.args.job.now) c.args.shown.date.year c.loop-year.year c.loop-year.invariant here

pub returns : goal.returns
returns c =
    let past : last_year < c.loop-year.year = omega arith in
    none_is (job_of c.args.job.now) c.args.shown.date.year c.loop-year.year past c.loop-year.invariant
