use Rattle.std.proofs.Common.{rules, ◌≡◌, ◌∙◌, ap, sym, true, false, eqb, length, Some, None, string_bytes}
use Rattle.std.specs.Str.{trim, str_to_ascii_uppercase}
use Rattle.croner.specs.parser.Cut.{replaced}
use Rattle.croner.specs.parser.Grammar.{nicknamed}
use Rattle.croner.proofs.parser.FieldReads.{empty_outcome, replaced_outcome}
use Rattle.croner.proofs.parser.CronParser.prepare.Goals as goal

pub returns-then-is_empty : goal.returns-then-is_empty
returns-then-is_empty c =
    let text : c.trim-text.result.now ≡ trim (str_to_ascii_uppercase c.args.given.now) = search rules in
    let empty : eqb (length c.trim-text.result.now) 0 ≡ true = search rules in
    empty_outcome c.args.self.now c.args.given.now c.trim-text.result.now text empty

pub returns-in-Some : goal.returns-in-Some
returns-in-Some c =
    let s = c.args.self.now in
    let text : c.trim-text.result.now ≡ trim (str_to_ascii_uppercase c.args.given.now) = search rules in
    let some : eqb (length c.trim-text.result.now) 0 ≡ false = search rules in
    let full = c.text_or-full.ensures (nicknamed s c.trim-text.result.now) c.in_ok-nickname.ensures in
    let found : Some (string_bytes c.in-Some.prepared) ≡ replaced c.self.inside.alternative_weekdays false c.text_or-full.result.now = search rules in
    sym (replaced_outcome s c.args.given.now c.trim-text.result.now c.text_or-full.result.now c.self.inside.alternative_weekdays (Some (string_bytes c.in-Some.prepared)) text some full (ap (λ v. v.quartz) c.self.view_is) found)

pub returns : goal.returns
returns c =
    let s = c.args.self.now in
    let text : c.trim-text.result.now ≡ trim (str_to_ascii_uppercase c.args.given.now) = search rules in
    let some : eqb (length c.trim-text.result.now) 0 ≡ false = search rules in
    let full = c.text_or-full.ensures (nicknamed s c.trim-text.result.now) c.in_ok-nickname.ensures in
    let none : None ≡ replaced c.self.inside.alternative_weekdays false c.text_or-full.result.now = search rules in
    sym (replaced_outcome s c.args.given.now c.trim-text.result.now c.text_or-full.result.now c.self.inside.alternative_weekdays None text some full (ap (λ v. v.quartz) c.self.view_is) none) ∙ c.in_ok-cause-in-None.ensures
