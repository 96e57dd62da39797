use Rattle.std.proofs.Common.{ap, ◌∙◌}
use Rattle.croner_pattern.specs.Meaning.{meaning_of}
use Rattle.croner_pattern.specs.Schedule.{is_date_matching}
use Rattle.croner.proofs.zone.WallSeconds.{date_answer}
use Rattle.croner.proofs.search.pattern.CronPatternSchedule.matches_date.Goals as goal

pub returns : goal.returns
returns c =
    let m = meaning_of c.args.self.now in
    date_answer m c.args.civil c.matches_date.result (c.matches_date.ensures ∙ ap (is_date_matching m) c.date.ensures)
