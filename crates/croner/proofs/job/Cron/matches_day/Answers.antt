use Rattle.std.proofs.Common.{rules, FitsSigned, w32}
use Rattle.std.proofs.lemmas.Int.{to_z-of_z}
use Rattle.croner_base.specs.Civil.{weekday_index}
use Rattle.croner.specs.Views.{job_of}
use Rattle.croner.proofs.Matching.{day_answer}
use Rattle.croner.proofs.job.Cron.matches_day.Goals as goal

pub returns : goal.returns
returns c =
    let f32 : FitsSigned w32 c.year.result = search rules in
    let h = simp to_z-of_z at (c.day_match.ensures.shaped c.args.self.now.shaped) in
    day_answer (job_of c.args.self.now) c.args.date c.year.result c.month.result c.day.result (weekday_index c.args.weekday) c.day_match.result c.year.ensures c.month.ensures c.day.ensures h c.requires
