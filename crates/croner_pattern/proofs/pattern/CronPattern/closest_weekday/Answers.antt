use Rattle.croner_base.specs.Civil.{weekday_index}
use Rattle.croner_pattern.specs.Meaning.{meaning_of}
use Rattle.croner_pattern.specs.Questions.{first_from, near_answers}
use Rattle.croner_pattern.specs.Schedule.{is_near_target}
use Rattle.croner_pattern.proofs.questions.FieldShapes.{Finds-some}
use Rattle.croner_pattern.proofs.questions.ScheduledAnswers.{IsDayOfMonth, near_is}
use Rattle.croner_pattern.proofs.questions.DayAnswers.{near_answered, Finds-value}
use Rattle.croner_pattern.proofs.pattern.CronPattern.closest_weekday.Goals as goal

pub returns-clause-value : goal.returns-clause-value
returns-clause-value c =
    let first = first_from (weekday_index c.args.weekday) c.args.day in
    let k : IsDayOfMonth c.args.month_length first c.args.day = record { shortest = c.requires.length.0; longest = c.requires.length.1; weekday = rw (← c.first_from.ensures.value) c.first_from.ensures.bound; low = c.requires.day.0; high = c.requires.day.1 } in
    Finds-value (near_answers c.args.self.now.days c.args.month_length first c.args.day) c.is_near_target.result (is_near_target c.args.self.now.days c.args.month_length first c.args.day)
    (λ b e. near_is c.args.self.now.days c.args.month_length first c.args.day b k e)
    (rw c.first_from.ensures.value at c.is_near_target.ensures)

pub returns-clause-shaped : goal.returns-clause-shaped
returns-clause-shaped c h =
    let first = first_from (weekday_index c.args.weekday) c.args.day in
    let k : IsDayOfMonth c.args.month_length first c.args.day = record { shortest = c.requires.length.0; longest = c.requires.length.1; weekday = rw (← c.first_from.ensures.value) c.first_from.ensures.bound; low = c.requires.day.0; high = c.requires.day.1 } in
    Finds-some (is_near_target c.args.self.now.days c.args.month_length first c.args.day) (near_answers c.args.self.now.days c.args.month_length first c.args.day) c.is_near_target.result
    (near_answered (meaning_of c.args.self.now) c.args.month_length first c.args.day h k)
    (rw c.first_from.ensures.value at c.is_near_target.ensures)
