use Rattle.std.proofs.Common.{◌≡◌, refl, subst, sym, string_bytes}
use Rattle.std.specs.Prelude.{MatchOption}
use Rattle.croner.specs.parser.Grammar.{Texts, settled, starred, without_plus}
use Rattle.croner.specs.Views.{texts_of}
use Rattle.croner.proofs.parser.settle.Settled.fields.Goals as goal

pub returns : goal.returns
returns c = λ h.
    let written : Texts = texts_of c.args.written in
    let days : c.text_or.result.now ≡ starred written.days = c.text_or.ensures (starred written.days) h.days in
    let weekdays : c.text_or-2.result.now ≡ starred (without_plus written.days_of_week) =
    c.text_or-2.ensures (starred (without_plus written.days_of_week))
    (subst (λ x. MatchOption c.args.self.now.days_of_week (starred (without_plus written.days_of_week) ≡ x) (λ t. string_bytes t ≡ starred (without_plus written.days_of_week))) (sym c.without_plus-weekdays.ensures) h.days_of_week) in
    let same : ◌≡◌ {A = Texts} (record written { days = c.text_or.result.now; days_of_week = c.text_or-2.result.now }) (settled written) = rw (days, weekdays) refl in same
