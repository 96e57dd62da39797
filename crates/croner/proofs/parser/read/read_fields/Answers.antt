use Rattle.std.proofs.Common.{◌∙◌, ap, Err}
use Rattle.std.proofs.lemmas.Result.{err_from_is_err_and}
use Rattle.croner_pattern.specs.Shapes.{sixty_shape, hour_shape, day_shape, month_shape, year_shape}
use Rattle.croner_pattern.specs.Meaning.{Meaning}
use Rattle.croner.specs.declared.parser.fault.PatternField.TheVariants as fields
use Rattle.croner.specs.parser.Grammar.{reading_of, weekdays_of}
use Rattle.croner.specs.Views.{texts_of}
use Rattle.croner.proofs.parser.FieldReads.{reads_field, field_read, same_fields, all_read, field_stops, fails_1, fails_2, fails_3, fails_4, fails_5, fails_6, fails_7}
use Rattle.croner.proofs.parser.read.read_fields.Goals as goal

pub returns-in_err-read_field : goal.returns-in_err-read_field
returns-in_err-read_field c = λ s same text start.
    let p = err_from_is_err_and c.from_residual.result c.from_residual.ensures.1 in
    let h1 = reads_field (Err c.in_err-read_field.field-0.0) s sixty_shape c.args.fields.seconds.now c.args.pattern.now.seconds c.read_field.new.component fields.Seconds c.args.sloppy same (ap (λ m. m.seconds) start) c.in_err-read_field.ensures in
    rw (p.1, p.2) (field_stops s (texts_of c.args.fields) (reading_of s sixty_shape c.args.fields.seconds.now) fields.Seconds c.in_err-read_field.field-0.0
    (λ refused. fails_1 ((reading_of s sixty_shape c.args.fields.seconds.now).accepted) ((reading_of s sixty_shape c.args.fields.minutes.now).accepted) ((reading_of s hour_shape c.args.fields.hours.now).accepted) ((reading_of s day_shape c.args.fields.days.now).accepted) ((reading_of s month_shape c.args.fields.months.now).accepted) ((reading_of s (weekdays_of s) c.args.fields.days_of_week.now).accepted) ((reading_of s year_shape c.args.fields.years.now).accepted) refused) h1)

pub returns-in_err-read_field-2 : goal.returns-in_err-read_field-2
returns-in_err-read_field-2 c = λ s same text start.
    let p = err_from_is_err_and c.from_residual-in_err-read_field-2.result c.from_residual-in_err-read_field-2.ensures.1 in
    let h1 = field_read s sixty_shape c.args.fields.seconds.now c.args.pattern.now.seconds c.read_field.new.component fields.Seconds c.args.sloppy same (ap (λ m. m.seconds) start) c.in_ok-read_field.ensures in
    let h2 = reads_field (Err c.in_err-read_field-2.field-0.0) s sixty_shape c.args.fields.minutes.now c.args.pattern.now.minutes c.read_field-2.new.component fields.Minutes c.args.sloppy same (ap (λ m. m.minutes) start) c.in_err-read_field-2.ensures in
    rw (p.1, p.2) (field_stops s (texts_of c.args.fields) (reading_of s sixty_shape c.args.fields.minutes.now) fields.Minutes c.in_err-read_field-2.field-0.0
    (λ refused. fails_2 ((reading_of s sixty_shape c.args.fields.seconds.now).accepted) ((reading_of s sixty_shape c.args.fields.minutes.now).accepted) ((reading_of s hour_shape c.args.fields.hours.now).accepted) ((reading_of s day_shape c.args.fields.days.now).accepted) ((reading_of s month_shape c.args.fields.months.now).accepted) ((reading_of s (weekdays_of s) c.args.fields.days_of_week.now).accepted) ((reading_of s year_shape c.args.fields.years.now).accepted) h1.0 refused) h2)

pub returns-in_err-read_field-3 : goal.returns-in_err-read_field-3
returns-in_err-read_field-3 c = λ s same text start.
    let p = err_from_is_err_and c.from_residual-in_err-read_field-3.result c.from_residual-in_err-read_field-3.ensures.1 in
    let h1 = field_read s sixty_shape c.args.fields.seconds.now c.args.pattern.now.seconds c.read_field.new.component fields.Seconds c.args.sloppy same (ap (λ m. m.seconds) start) c.in_ok-read_field.ensures in
    let h2 = field_read s sixty_shape c.args.fields.minutes.now c.args.pattern.now.minutes c.read_field-2.new.component fields.Minutes c.args.sloppy same (ap (λ m. m.minutes) start) c.in_ok-read_field-2.ensures in
    let h3 = reads_field (Err c.in_err-read_field-3.field-0.0) s hour_shape c.args.fields.hours.now c.args.pattern.now.hours c.read_field-3.new.component fields.Hours c.args.sloppy same (ap (λ m. m.hours) start) c.in_err-read_field-3.ensures in
    rw (p.1, p.2) (field_stops s (texts_of c.args.fields) (reading_of s hour_shape c.args.fields.hours.now) fields.Hours c.in_err-read_field-3.field-0.0
    (λ refused. fails_3 ((reading_of s sixty_shape c.args.fields.seconds.now).accepted) ((reading_of s sixty_shape c.args.fields.minutes.now).accepted) ((reading_of s hour_shape c.args.fields.hours.now).accepted) ((reading_of s day_shape c.args.fields.days.now).accepted) ((reading_of s month_shape c.args.fields.months.now).accepted) ((reading_of s (weekdays_of s) c.args.fields.days_of_week.now).accepted) ((reading_of s year_shape c.args.fields.years.now).accepted) h1.0 h2.0 refused) h3)

pub returns-in_err-read_field-4 : goal.returns-in_err-read_field-4
returns-in_err-read_field-4 c = λ s same text start.
    let p = err_from_is_err_and c.from_residual-in_err-read_field-4.result c.from_residual-in_err-read_field-4.ensures.1 in
    let h1 = field_read s sixty_shape c.args.fields.seconds.now c.args.pattern.now.seconds c.read_field.new.component fields.Seconds c.args.sloppy same (ap (λ m. m.seconds) start) c.in_ok-read_field.ensures in
    let h2 = field_read s sixty_shape c.args.fields.minutes.now c.args.pattern.now.minutes c.read_field-2.new.component fields.Minutes c.args.sloppy same (ap (λ m. m.minutes) start) c.in_ok-read_field-2.ensures in
    let h3 = field_read s hour_shape c.args.fields.hours.now c.args.pattern.now.hours c.read_field-3.new.component fields.Hours c.args.sloppy same (ap (λ m. m.hours) start) c.in_ok-read_field-3.ensures in
    let h4 = reads_field (Err c.in_err-read_field-4.field-0.0) s day_shape c.args.fields.days.now c.args.pattern.now.days c.read_field-4.new.component fields.DayOfMonth c.args.sloppy same (ap (λ m. m.days) start) c.in_err-read_field-4.ensures in
    rw (p.1, p.2) (field_stops s (texts_of c.args.fields) (reading_of s day_shape c.args.fields.days.now) fields.DayOfMonth c.in_err-read_field-4.field-0.0
    (λ refused. fails_4 ((reading_of s sixty_shape c.args.fields.seconds.now).accepted) ((reading_of s sixty_shape c.args.fields.minutes.now).accepted) ((reading_of s hour_shape c.args.fields.hours.now).accepted) ((reading_of s day_shape c.args.fields.days.now).accepted) ((reading_of s month_shape c.args.fields.months.now).accepted) ((reading_of s (weekdays_of s) c.args.fields.days_of_week.now).accepted) ((reading_of s year_shape c.args.fields.years.now).accepted) h1.0 h2.0 h3.0 refused) h4)

pub returns-in_err-read_field-5 : goal.returns-in_err-read_field-5
returns-in_err-read_field-5 c = λ s same text start.
    let p = err_from_is_err_and c.from_residual-in_err-read_field-5.result c.from_residual-in_err-read_field-5.ensures.1 in
    let h1 = field_read s sixty_shape c.args.fields.seconds.now c.args.pattern.now.seconds c.read_field.new.component fields.Seconds c.args.sloppy same (ap (λ m. m.seconds) start) c.in_ok-read_field.ensures in
    let h2 = field_read s sixty_shape c.args.fields.minutes.now c.args.pattern.now.minutes c.read_field-2.new.component fields.Minutes c.args.sloppy same (ap (λ m. m.minutes) start) c.in_ok-read_field-2.ensures in
    let h3 = field_read s hour_shape c.args.fields.hours.now c.args.pattern.now.hours c.read_field-3.new.component fields.Hours c.args.sloppy same (ap (λ m. m.hours) start) c.in_ok-read_field-3.ensures in
    let h4 = field_read s day_shape c.args.fields.days.now c.args.pattern.now.days c.read_field-4.new.component fields.DayOfMonth c.args.sloppy same (ap (λ m. m.days) start) c.in_ok-read_field-4.ensures in
    let h5 = reads_field (Err c.in_err-read_field-5.field-0.0) s month_shape c.args.fields.months.now c.args.pattern.now.months c.read_field-5.new.component fields.Month c.args.sloppy same (ap (λ m. m.months) start) c.in_err-read_field-5.ensures in
    rw (p.1, p.2) (field_stops s (texts_of c.args.fields) (reading_of s month_shape c.args.fields.months.now) fields.Month c.in_err-read_field-5.field-0.0
    (λ refused. fails_5 ((reading_of s sixty_shape c.args.fields.seconds.now).accepted) ((reading_of s sixty_shape c.args.fields.minutes.now).accepted) ((reading_of s hour_shape c.args.fields.hours.now).accepted) ((reading_of s day_shape c.args.fields.days.now).accepted) ((reading_of s month_shape c.args.fields.months.now).accepted) ((reading_of s (weekdays_of s) c.args.fields.days_of_week.now).accepted) ((reading_of s year_shape c.args.fields.years.now).accepted) h1.0 h2.0 h3.0 h4.0 refused) h5)

pub returns-in_err-read_field-6 : goal.returns-in_err-read_field-6
returns-in_err-read_field-6 c = λ s same text start.
    let p = err_from_is_err_and c.from_residual-in_err-read_field-6.result c.from_residual-in_err-read_field-6.ensures.1 in
    let h1 = field_read s sixty_shape c.args.fields.seconds.now c.args.pattern.now.seconds c.read_field.new.component fields.Seconds c.args.sloppy same (ap (λ m. m.seconds) start) c.in_ok-read_field.ensures in
    let h2 = field_read s sixty_shape c.args.fields.minutes.now c.args.pattern.now.minutes c.read_field-2.new.component fields.Minutes c.args.sloppy same (ap (λ m. m.minutes) start) c.in_ok-read_field-2.ensures in
    let h3 = field_read s hour_shape c.args.fields.hours.now c.args.pattern.now.hours c.read_field-3.new.component fields.Hours c.args.sloppy same (ap (λ m. m.hours) start) c.in_ok-read_field-3.ensures in
    let h4 = field_read s day_shape c.args.fields.days.now c.args.pattern.now.days c.read_field-4.new.component fields.DayOfMonth c.args.sloppy same (ap (λ m. m.days) start) c.in_ok-read_field-4.ensures in
    let h5 = field_read s month_shape c.args.fields.months.now c.args.pattern.now.months c.read_field-5.new.component fields.Month c.args.sloppy same (ap (λ m. m.months) start) c.in_ok-read_field-5.ensures in
    let h6 = reads_field (Err c.in_err-read_field-6.field-0.0) s (weekdays_of s) c.args.fields.days_of_week.now c.args.pattern.now.days_of_week c.read_field-6.new.component fields.Weekday c.args.sloppy same (ap (λ m. m.days_of_week) start) c.in_err-read_field-6.ensures in
    rw (p.1, p.2) (field_stops s (texts_of c.args.fields) (reading_of s (weekdays_of s) c.args.fields.days_of_week.now) fields.Weekday c.in_err-read_field-6.field-0.0
    (λ refused. fails_6 ((reading_of s sixty_shape c.args.fields.seconds.now).accepted) ((reading_of s sixty_shape c.args.fields.minutes.now).accepted) ((reading_of s hour_shape c.args.fields.hours.now).accepted) ((reading_of s day_shape c.args.fields.days.now).accepted) ((reading_of s month_shape c.args.fields.months.now).accepted) ((reading_of s (weekdays_of s) c.args.fields.days_of_week.now).accepted) ((reading_of s year_shape c.args.fields.years.now).accepted) h1.0 h2.0 h3.0 h4.0 h5.0 refused) h6)

pub returns-in_err-read_field-7 : goal.returns-in_err-read_field-7
returns-in_err-read_field-7 c = λ s same text start.
    let p = err_from_is_err_and c.from_residual-in_err-read_field-7.result c.from_residual-in_err-read_field-7.ensures.1 in
    let h1 = field_read s sixty_shape c.args.fields.seconds.now c.args.pattern.now.seconds c.read_field.new.component fields.Seconds c.args.sloppy same (ap (λ m. m.seconds) start) c.in_ok-read_field.ensures in
    let h2 = field_read s sixty_shape c.args.fields.minutes.now c.args.pattern.now.minutes c.read_field-2.new.component fields.Minutes c.args.sloppy same (ap (λ m. m.minutes) start) c.in_ok-read_field-2.ensures in
    let h3 = field_read s hour_shape c.args.fields.hours.now c.args.pattern.now.hours c.read_field-3.new.component fields.Hours c.args.sloppy same (ap (λ m. m.hours) start) c.in_ok-read_field-3.ensures in
    let h4 = field_read s day_shape c.args.fields.days.now c.args.pattern.now.days c.read_field-4.new.component fields.DayOfMonth c.args.sloppy same (ap (λ m. m.days) start) c.in_ok-read_field-4.ensures in
    let h5 = field_read s month_shape c.args.fields.months.now c.args.pattern.now.months c.read_field-5.new.component fields.Month c.args.sloppy same (ap (λ m. m.months) start) c.in_ok-read_field-5.ensures in
    let h6 = field_read s (weekdays_of s) c.args.fields.days_of_week.now c.args.pattern.now.days_of_week c.read_field-6.new.component fields.Weekday c.args.sloppy same (ap (λ m. m.days_of_week) start) c.in_ok-read_field-6.ensures in
    let h7 = reads_field (Err c.in_err-read_field-7.field-0.0) s year_shape c.args.fields.years.now c.args.pattern.now.years c.read_field-7.new.component fields.Year c.args.sloppy same (ap (λ m. m.years) start) c.in_err-read_field-7.ensures in
    rw (p.1, p.2) (field_stops s (texts_of c.args.fields) (reading_of s year_shape c.args.fields.years.now) fields.Year c.in_err-read_field-7.field-0.0
    (λ refused. fails_7 ((reading_of s sixty_shape c.args.fields.seconds.now).accepted) ((reading_of s sixty_shape c.args.fields.minutes.now).accepted) ((reading_of s hour_shape c.args.fields.hours.now).accepted) ((reading_of s day_shape c.args.fields.days.now).accepted) ((reading_of s month_shape c.args.fields.months.now).accepted) ((reading_of s (weekdays_of s) c.args.fields.days_of_week.now).accepted) ((reading_of s year_shape c.args.fields.years.now).accepted) h1.0 h2.0 h3.0 h4.0 h5.0 h6.0 refused) h7)

pub returns : goal.returns
returns c = λ s same text start.
    let h1 = field_read s sixty_shape c.args.fields.seconds.now c.args.pattern.now.seconds c.read_field.new.component fields.Seconds c.args.sloppy same (ap (λ m. m.seconds) start) c.in_ok-read_field.ensures in
    let h2 = field_read s sixty_shape c.args.fields.minutes.now c.args.pattern.now.minutes c.read_field-2.new.component fields.Minutes c.args.sloppy same (ap (λ m. m.minutes) start) c.in_ok-read_field-2.ensures in
    let h3 = field_read s hour_shape c.args.fields.hours.now c.args.pattern.now.hours c.read_field-3.new.component fields.Hours c.args.sloppy same (ap (λ m. m.hours) start) c.in_ok-read_field-3.ensures in
    let h4 = field_read s day_shape c.args.fields.days.now c.args.pattern.now.days c.read_field-4.new.component fields.DayOfMonth c.args.sloppy same (ap (λ m. m.days) start) c.in_ok-read_field-4.ensures in
    let h5 = field_read s month_shape c.args.fields.months.now c.args.pattern.now.months c.read_field-5.new.component fields.Month c.args.sloppy same (ap (λ m. m.months) start) c.in_ok-read_field-5.ensures in
    let h6 = field_read s (weekdays_of s) c.args.fields.days_of_week.now c.args.pattern.now.days_of_week c.read_field-6.new.component fields.Weekday c.args.sloppy same (ap (λ m. m.days_of_week) start) c.in_ok-read_field-6.ensures in
    let h7 = field_read s year_shape c.args.fields.years.now c.args.pattern.now.years c.read_field-7.new.component fields.Year c.args.sloppy same (ap (λ m. m.years) start) c.in_ok-read_field-7.ensures in (
      all_read s (texts_of c.args.fields) h1.0 h2.0 h3.0 h4.0 h5.0 h6.0 h7.0,
      ap {A = Meaning} (λ m. record m { seconds = c.read_field.new.component; minutes = c.read_field-2.new.component; hours = c.read_field-3.new.component; days = c.read_field-4.new.component; months = c.read_field-5.new.component; days_of_week = c.read_field-6.new.component; years = c.read_field-7.new.component }) start
          ∙ same_fields text _ _ _ _ _ _ _ _ _ _ _ _ _ _ h1.1 h2.1 h3.1 h4.1 h5.1 h6.1 h7.1,
    )
