use Rattle.std.proofs.Common.{◌≡◌, true, false, ◌∙◌}
use Rattle.croner_base.specs.Field.{has_all}
use Rattle.croner_pattern.specs.Days.{is_last_day, is_last_working}
use Rattle.croner_pattern.proofs.days.DayTable.{last_day_is}
use Rattle.croner_pattern.proofs.questions.ScheduledAnswers.{last_alone}
use Rattle.croner_pattern.proofs.pattern.days.is_named_last.Goals as goal

pub returns-else-is_feature_enabled : goal.returns-else-is_feature_enabled
returns-else-is_feature_enabled c =
    let l : has_all c.args.days.now.enabled 64 ≡ true = cc in
    let n : has_all c.args.days.now.enabled 128 ≡ false = cc in
    last_day_is c.args.length c.args.day c.requires.length.0 c.requires.length.1 c.requires.day.0 c.requires.day.1
    ∙ last_alone (has_all c.args.days.now.enabled 64) (has_all c.args.days.now.enabled 128) (is_last_day c.args.length c.args.day) (is_last_working c.args.length c.args.first c.args.day) l n
