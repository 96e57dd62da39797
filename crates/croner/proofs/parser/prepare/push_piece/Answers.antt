use Rattle.std.proofs.Common.{rules, ◌≡◌, ◌++◌, sym, ◌∙◌, subst, ap, string_bytes}
use Rattle.std.proofs.lemmas.Bool.{false≢true}
use Rattle.std.proofs.lemmas.Option.{MatchOption-at_none}
use Rattle.std.proofs.lemmas.Result.{IfOk-weaker}
use Rattle.std.specs.Str.{IsCharBoundary}
use Rattle.croner.specs.parser.Cut.{name_of, decimal_of}
use Rattle.croner.specs.Private.parser.Steps.{HasNoName, IsShown}
use Rattle.croner.proofs.parser.Names.{advance_name, no_low_text, no_name_between}
use Rattle.croner.proofs.parser.prepare.push_piece.Goals as goal
use Rattle.croner.proofs.parser.prepare.push_piece.Goals.{in-Some+in_default-number_of, in_default}

pub returns-in-Some-number_of : goal.returns-in-Some-number_of
returns-in-Some-number_of c =
    let boundary : IsCharBoundary c.args.text.now 3 = search rules in
    let name = subst (λ n. IsShown c.args.quartz c.args.after_dash n c.in-Some-number_of.number) c.in-Some.ensures.front c.in-Some-number_of.ensures in
    let pushed : string_bytes c.push_number.new.text ≡ string_bytes c.args.written.now ++ decimal_of c.in-Some-number_of.number = search rules in
    advance_name c.args.quartz c.args.after_dash c.args.text.now c.in-Some.rest.now (string_bytes c.args.written.now) (string_bytes c.push_number.new.text) c.in-Some-number_of.number c.utf8.text boundary c.in-Some.ensures.back name pushed

pub returns-then-not-begins_with_letter : goal.returns-then-not-begins_with_letter
returns-then-not-begins_with_letter c =
    let none : HasNoName c.args.text.now = no_low_text c.args.text.now (search rules) in
    IfOk-weaker c.push_char.result _ _ (λ rest h. h c.args.quartz c.args.after_dash none) c.push_char.ensures

pub returns : goal.returns
returns c =
    let none : HasNoName c.args.text.now = elim c.match-split_at_checked.branch [
      | in-Some+in_default-number_of w ↦
          ap name_of (sym w.in-Some.ensures.front) ∙ MatchOption-at_none _ _ w.in_default-number_of.is w.number_of.ensures
      | in_default w ↦ no_name_between c.args.text.now c.utf8.text (λ b. false≢true (w.in_default.ensures.variant.1 b))
    ] in
    IfOk-weaker c.push_char-2.result _ _ (λ rest h. h c.args.quartz c.args.after_dash none) c.push_char-2.ensures
