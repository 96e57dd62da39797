use Rattle.std.proofs.Common.{◌≡◌, ℕ, ◌<◌, not, ap, sym, ◌∙◌, subst}
use Rattle.std.specs.Int.{IsInRange}
use Rattle.std.proofs.lemmas.Bool.{false≢true}
use Rattle.std.proofs.lemmas.Int.{to_z-of_z}
use Rattle.jiff_core.specs.Calendar.{days_in_month}
use Rattle.croner_base.specs.Civil.{weekday_index}
use Rattle.croner_pattern.specs.Meaning.{meaning_of}
use Rattle.croner_pattern.specs.Questions.{first_from, date_answer}
use Rattle.croner_pattern.specs.Schedule.{is_day_matching}
use Rattle.croner_pattern.proofs.questions.FieldShapes.{Finds-some}
use Rattle.croner_pattern.proofs.questions.ScheduledAnswers.{IsDayOfMonth, date_is}
use Rattle.croner_pattern.proofs.questions.DayAnswers.{date_answered, Finds-value, Finds-moved}
use Rattle.croner_pattern.proofs.pattern.CronPattern.day_match.Goals as goal

kind : (len first day l f : ℕ) → l ≡ len → f ≡ first → IsInRange 28 31 l → f < 7 → IsInRange 1 len day → IsDayOfMonth len first day
kind len first day l f el ef long small real =
    let long_is : IsInRange 28 31 len = subst (λ n. IsInRange 28 31 n) el long in
    record { shortest = long_is.0; longest = long_is.1; weekday = subst (λ n. n < 7) ef small; low = real.0; high = real.1 }

pub returns-then-is_none-clause-shaped : goal.returns-then-is_none-clause-shaped
returns-then-is_none-clause-shaped c h real =
    let year = c.ranges.year in
    let some = simp (to_z-of_z, year) at c.from_ymd_opt.ensures.some in
    absurd (false≢true (sym (c.is_none.ensures ∙ ap not c.if-is_none.true) ∙ some.1 real))

pub returns-clause-asked : goal.returns-clause-asked
returns-clause-asked c real =
    let year = c.ranges.year in
    let length_is = simp (to_z-of_z, year) at c.days_in_month-length.ensures.value in
    Finds-moved (meaning_of c.args.self.now) c.args.day c.fits.result c.days_in_month-length.result (days_in_month c.args.year c.args.month) c.first_from.result (first_from (weekday_index c.args.weekday) c.args.day) length_is c.first_from.ensures.value c.fits.ensures

pub returns-clause-value : goal.returns-clause-value
returns-clause-value c =
    let year = c.ranges.year in
    let length_is = simp (to_z-of_z, year) at c.days_in_month-length.ensures.value in
    let some = simp (to_z-of_z, year) at c.from_ymd_opt.ensures.some in
    let real = some.0 (c.is_none.ensures ∙ ap not c.if-is_none.false) in
    let first = first_from (weekday_index c.args.weekday) c.args.day in
    let len = days_in_month c.args.year c.args.month in
    let k : IsDayOfMonth len first c.args.day = kind len first c.args.day c.days_in_month-length.result c.first_from.result length_is c.first_from.ensures.value c.days_in_month-length.ensures.bound c.first_from.ensures.bound real.1 in
    Finds-value (date_answer (meaning_of c.args.self.now) len first c.args.day) c.fits.result (is_day_matching (meaning_of c.args.self.now) len first c.args.day)
    (λ b e. date_is (meaning_of c.args.self.now) len first c.args.day b k e)
    (Finds-moved (meaning_of c.args.self.now) c.args.day c.fits.result c.days_in_month-length.result len c.first_from.result first length_is c.first_from.ensures.value c.fits.ensures)

pub returns-clause-shaped : goal.returns-clause-shaped
returns-clause-shaped c h real =
    let year = c.ranges.year in
    let length_is = simp (to_z-of_z, year) at c.days_in_month-length.ensures.value in
    let first = first_from (weekday_index c.args.weekday) c.args.day in
    let len = days_in_month c.args.year c.args.month in
    let k : IsDayOfMonth len first c.args.day = kind len first c.args.day c.days_in_month-length.result c.first_from.result length_is c.first_from.ensures.value c.days_in_month-length.ensures.bound c.first_from.ensures.bound real.1 in
    Finds-some (is_day_matching (meaning_of c.args.self.now) len first c.args.day) (date_answer (meaning_of c.args.self.now) len first c.args.day) c.fits.result
    (date_answered (meaning_of c.args.self.now) len first c.args.day h k)
    (Finds-moved (meaning_of c.args.self.now) c.args.day c.fits.result c.days_in_month-length.result len c.first_from.result first length_is c.first_from.ensures.value c.fits.ensures)
