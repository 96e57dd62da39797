use Rattle.std.proofs.Common.{ap, ◌∙◌}
use Rattle.croner_pattern.specs.Schedule.{is_date_matching}
use Rattle.croner.specs.compact.Compact.{compact_meaning}
use Rattle.croner.proofs.zone.WallSeconds.{date_answer}
use Rattle.croner.proofs.compact.schedule.CompactCronSchedule.matches_date.Goals as goal

pub returns : goal.returns
returns c =
    let m = compact_meaning c.args.self.now in
    date_answer m c.args.civil c.matches_date.result (c.matches_date.ensures ∙ ap (is_date_matching m) c.date.ensures)
