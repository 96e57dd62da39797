use Rattle.std.proofs.Common.{rules, ◌≡◌, ◌∙◌, ap, sym, subst, string_bytes}
use Rattle.std.proofs.lemmas.Result.{err_from_is_err_and}
use Rattle.croner_pattern.specs.Meaning.{Meaning, meaning_of}
use Rattle.croner.specs.Private.parser.Steps.{Reads, Stops}
use Rattle.croner.specs.parser.Grammar.{outcome, of_fields, fields_of, of_settled, settled}
use Rattle.croner.specs.parser.Words.{words}
use Rattle.croner.specs.Views.{texts_of}
use Rattle.croner.proofs.parser.CronParser.parse_text.Goals as goal

pub returns-in_err-prepared : goal.returns-in_err-prepared
returns-in_err-prepared c =
    let p = err_from_is_err_and c.from_residual.result c.from_residual.ensures.1 in rw (p.1, p.2) c.in_err-prepared.ensures

pub returns-in_err-written : goal.returns-in_err-written
returns-in_err-written c =
    let s = c.args.self.now in
    let text : c.as_str-text.result.now ≡ string_bytes c.in_ok-prepared.prepared = search rules in
    let same = ap (λ t. of_fields s t (fields_of s (words t))) text ∙ sym c.in_ok-prepared.ensures in
    let p = err_from_is_err_and c.from_residual-in_err-written.result c.from_residual-in_err-written.ensures.1 in
    rw (p.1, p.2) (subst (Stops {Y = Meaning} c.in_err-written.field-0.0) same c.in_err-written.ensures)

pub returns : goal.returns
returns c =
    let s = c.args.self.now in
    let text : c.as_str-text.result.now ≡ string_bytes c.in_ok-prepared.prepared = search rules in
    let same = ap (λ t. of_fields s t (fields_of s (words t))) text ∙ sym c.in_ok-prepared.ensures in
    let read : of_settled s c.as_str-text.result.now (texts_of c.fields.result) c.in_ok-settled.settled.and ≡ outcome s c.args.given.now =
    ap (λ t. of_settled s c.as_str-text.result.now t c.in_ok-settled.settled.and) (c.fields.ensures c.in_ok-settled.ensures.0)
    ∙ ap (of_settled s c.as_str-text.result.now (settled (texts_of c.in_ok-written.written))) c.in_ok-settled.ensures.1
    ∙ ap (of_fields s c.as_str-text.result.now) (sym c.in_ok-written.ensures) ∙ same in
    subst (Reads meaning_of c.read.result) read c.read.ensures
