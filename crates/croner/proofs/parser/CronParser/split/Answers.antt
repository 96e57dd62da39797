use Rattle.std.proofs.Common.{rules, ◌≡◌, ◌∙◌, ap, sym, subst, map, refl, Some, None}
use Rattle.croner_pattern.specs.Meaning.{Meaning}
use Rattle.croner.specs.Private.parser.Steps.{Stops}
use Rattle.croner.specs.parser.Grammar.{of_fields, fields_of}
use Rattle.croner.specs.declared.parser.stop.Cause.TheVariants as causes
use Rattle.croner.specs.declared.parser.stop.Stop.TheVariants as stops
use Rattle.croner.specs.parser.Words.{words}
use Rattle.croner.specs.Views.{texts_of}
use Rattle.croner.proofs.parser.CronParser.split.Goals as goal

pub returns-in-Some : goal.returns-in-Some
returns-in-Some c =
    let given : map (λ w. w.now) c.as_slice.result.now ≡ words c.args.text.now = search rules in
    let found : Some (texts_of c.in-Some.fields) ≡ fields_of c.args.self.now (map (λ w. w.now) c.as_slice.result.now) = search rules in
    sym (found ∙ ap (fields_of c.args.self.now) given)

pub returns : goal.returns
returns c =
    let given : map (λ w. w.now) c.as_slice.result.now ≡ words c.args.text.now = search rules in
    let none : None ≡ fields_of c.args.self.now (map (λ w. w.now) c.as_slice.result.now) = search rules in
    subst (λ t. Stops {Y = Meaning} (stops.Refused causes.Invalid) (of_fields c.args.self.now c.args.text.now t)) (none ∙ ap (fields_of c.args.self.now) given) refl
