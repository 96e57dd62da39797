use Rattle.std.proofs.Common.{◌≡◌, ◌++◌, refl, ◌∙◌, string_bytes, rules}
use Rattle.std.proofs.lemmas.Str.{cons_from_encodes, encodes-chars}
use Rattle.std.specs.Str.{chars}
use Rattle.cronplan_forms.specs.Escapes.{escaped_character, escaped_text}
use Rattle.cronplan_forms.proofs.EscapedTexts.{one_more, no_more, no_characters}
use Rattle.cronplan_forms.proofs.escapes.push_escaped.Goals as goal

pub loop-c-init : goal.loop-c-init
unfolding escaped_text
loop-c-init c = (chars c.args.text.now, search (rules, encodes-chars c.args.text.now c.utf8.text), refl)

pub loop-c-preserved : goal.loop-c-preserved
loop-c-preserved c =
    let now = c.loop-c.invariant in
    let first = cons_from_encodes now.0 _ c.in-Some.c (now.1 ∙ c.in-Some.ensures.steps.0) in
    let put : string_bytes c.push_character.new.out ≡ string_bytes c.loop-c.out ++ escaped_character c.args.form c.in-Some.c = search rules in
    (first.0, first.2, one_more _ _ _ _ _ _ c.in-Some.c put first.1 now.2)

pub returns-clause-value : goal.returns-clause-value
returns-clause-value c =
    let now = c.loop-c.invariant in
    no_more c.args.form _ _ now.0 (no_characters now.0 _ now.1 c.in-None.ensures.steps.0.0) now.2
