use Rattle.std.proofs.Common.{rules, ◌≡◌, ◌∙◌, sym, ap, subst, refl, true, cond, fold, Ok, Err}
use Rattle.std.proofs.lemmas.Result.{err_from_is_err_and}
use Rattle.std.specs.Prelude.{IfOk}
use Rattle.croner_base.specs.Field.{empty_field}
use Rattle.croner_pattern.specs.Meaning.{Meaning, meaning_of}
use Rattle.croner_pattern.specs.Shapes.{new_meaning, weekday_shape}
use Rattle.croner.specs.parser.Grammar.{Illegal, are_legal, illegal_field, of_legal, settled_weekdays, sunday_moved, weekday_modifiers}
use Rattle.croner.specs.Private.parser.Steps.{Stops, start_meaning}
use Rattle.croner.specs.Views.{texts_of}
use Rattle.croner.proofs.parser.FieldReads.{stopped_fields, read_takes_sunday, finished}
use Rattle.croner.proofs.parser.CronParser.read.Goals as goal

pub returns-in_err-read_fields : goal.returns-in_err-read_fields
returns-in_err-read_fields c =
    let s = c.args.self.now in
    let t = texts_of c.args.fields in
    let p = err_from_is_err_and c.from_residual.result c.from_residual.ensures.1 in
    let legal : true ≡ are_legal t = search rules in
    let mode : c.self.inside.alternative_weekdays ≡ s.quartz = ap (λ v. v.quartz) c.self.view_is in
    let start : meaning_of c.in-Ok.pattern ≡ start_meaning s c.args.text.now =
    subst (λ r. IfOk r (λ p. meaning_of p ≡ record (new_meaning c.args.text.now) { days_of_week = empty_field (weekday_shape (cond c.self.inside.alternative_weekdays 1 0)) })) c.in-Ok.is c.new_in_mode.ensures.ok ∙ ap (λ b. record (new_meaning c.args.text.now) { days_of_week = empty_field (weekday_shape (cond b 1 0)) }) mode in
    let h = c.in_err-read_fields.ensures s (sym (ap (λ v. v.sloppy) c.self.view_is)) c.args.text.now start in
    rw (p.1, p.2) (subst (λ b. Stops {Y = Meaning} c.in_err-read_fields.field-0.0 (cond b (of_legal s c.args.text.now t c.args.and) (Err (Illegal (illegal_field t))))) legal
    (stopped_fields s c.args.text.now t c.args.and c.in_err-read_fields.field-0.0 h))

pub settle_weekdays-requires : goal.settle_weekdays-requires
settle_weekdays-requires c = λ plain.
    let s = c.args.self.now in
    let mode : c.self.inside.alternative_weekdays ≡ s.quartz = ap (λ v. v.quartz) c.self.view_is in
    let start : meaning_of c.in-Ok.pattern ≡ start_meaning s c.args.text.now =
    subst (λ r. IfOk r (λ p. meaning_of p ≡ record (new_meaning c.args.text.now) { days_of_week = empty_field (weekday_shape (cond c.self.inside.alternative_weekdays 1 0)) })) c.in-Ok.is c.new_in_mode.ensures.ok ∙ ap (λ b. record (new_meaning c.args.text.now) { days_of_week = empty_field (weekday_shape (cond b 1 0)) }) mode in
    let h = c.in_ok-read_fields.ensures s (sym (ap (λ v. v.sloppy) c.self.view_is)) c.args.text.now start in
    read_takes_sunday s c.args.fields.days_of_week.now c.read_fields.new.pattern.days_of_week (sym mode ∙ plain) (ap (λ m. m.days_of_week) h.1)

pub returns : goal.returns
returns c =
    let s = c.args.self.now in
    let t = texts_of c.args.fields in
    let legal : true ≡ are_legal t = search rules in
    let mode : c.self.inside.alternative_weekdays ≡ s.quartz = ap (λ v. v.quartz) c.self.view_is in
    let start : meaning_of c.in-Ok.pattern ≡ start_meaning s c.args.text.now =
    subst (λ r. IfOk r (λ p. meaning_of p ≡ record (new_meaning c.args.text.now) { days_of_week = empty_field (weekday_shape (cond c.self.inside.alternative_weekdays 1 0)) })) c.in-Ok.is c.new_in_mode.ensures.ok ∙ ap (λ b. record (new_meaning c.args.text.now) { days_of_week = empty_field (weekday_shape (cond b 1 0)) }) mode in
    let h = c.in_ok-read_fields.ensures s (sym (ap (λ v. v.sloppy) c.self.view_is)) c.args.text.now start in
    let old : Meaning = meaning_of c.read_fields.new.pattern in
    let weekdays : c.settle_weekdays.new.weekdays ≡ settled_weekdays s old.days_of_week =
    c.settle_weekdays.ensures ∙ ap (λ b. cond b old.days_of_week (fold sunday_moved old.days_of_week weekday_modifiers)) mode in
    let read = finished s c.args.text.now t c.args.and old (meaning_of c.set_flags.new.self) c.settle_weekdays.new.weekdays h.0 h.1 weekdays
    (c.set_flags.ensures ∙ rw (c.is_star.ensures, c.is_star-2.ensures) refl) in
    subst (λ b. cond b (of_legal s c.args.text.now t c.args.and) (Err (Illegal (illegal_field t))) ≡ Ok (meaning_of c.set_flags.new.self)) legal read
