use Rattle.std.proofs.Common.{rules, ◌≡◌, ◌∙◌, ap, true, false, string_bytes}
use Rattle.croner_base.specs.Part.{contains_byte}
use Rattle.croner.specs.parser.Settings.{seconds_required, year_required}
use Rattle.croner.proofs.parser.FieldReads.{no_nickname, with_nickname}
use Rattle.croner.proofs.parser.CronParser.nickname.Goals as goal

pub returns-then-not-has_byte : goal.returns-then-not-has_byte
returns-then-not-has_byte c =
    let none : contains_byte 64 c.args.text.now ≡ false = search rules in no_nickname c.args.self.now c.args.text.now none

pub returns : goal.returns
returns c =
    let has : contains_byte 64 c.args.text.now ≡ true = search rules in
    with_nickname c.args.self.now c.args.text.now (string_bytes c.in_ok-full.full) c.is_required-seconds.result c.is_required-year.result has (c.is_required-seconds.ensures ∙ ap (λ v. seconds_required v.seconds_field) c.self.view_is) (c.is_required-year.ensures ∙ ap (λ v. year_required v.year_field) c.self.view_is) c.in_ok-full.ensures
