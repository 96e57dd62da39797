use Rattle.std.proofs.Common.{rules, ◌≡◌, ◌∙◌, ap, sym, map, Some, Err}
use Rattle.croner.specs.parser.Grammar.{Illegal, fields_of, illegal_word, of_letter}
use Rattle.croner.specs.parser.Words.{words}
use Rattle.croner.specs.Views.{texts_of}
use Rattle.croner.proofs.parser.CronParser.cause_of_letter.Goals as goal

pub returns-in-Some : goal.returns-in-Some
returns-in-Some c =
    let s = c.args.self.now in
    let given : map (λ w. w.now) c.as_slice.result.now ≡ words c.args.full.now = search rules in
    let found : Some (texts_of c.in-Some.given) ≡ fields_of s (map (λ w. w.now) c.as_slice.result.now) = search rules in
    let mode : c.self.inside.alternative_weekdays ≡ s.quartz = ap (λ v. v.quartz) c.self.view_is in
    let field : c.in_ok-field-in-Some.field ≡ illegal_word s.quartz (texts_of c.in-Some.given) =
    c.in_ok-field-in-Some.ensures ∙ ap (λ b. illegal_word b (texts_of c.in-Some.given)) mode in
    ap (of_letter s) (sym (found ∙ ap (fields_of s) given)) ∙ ap (λ f. Err (Illegal f)) (sym field)
