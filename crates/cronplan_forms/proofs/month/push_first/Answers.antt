use Rattle.std.proofs.Common.{◌≡◌, ◌++◌, ◌-◌, ◌∷◌, [], refl, ◌∙◌, string_bytes, take, rules}
use Rattle.std.proofs.lemmas.Str.{cons_from_encodes, encodes-chars}
use Rattle.std.specs.List.{flat_map}
use Rattle.std.specs.Str.{chars}
use Rattle.cronplan_forms.specs.Months.{character_text}
use Rattle.cronplan_forms.proofs.EscapedTexts.{no_characters}
use Rattle.cronplan_forms.proofs.MonthParts.{one_more, no_more}
use Rattle.cronplan_forms.proofs.month.push_first.Goals as goal

pub loop-c-init : goal.loop-c-init
loop-c-init c = (chars c.args.title.now, search (rules, encodes-chars c.args.title.now c.utf8.title), refl)

pub loop-c-preserved : goal.loop-c-preserved
loop-c-preserved c =
    let now = c.loop-c.invariant in
    let first = cons_from_encodes now.0 _ c.in-Some.c (now.1 ∙ c.in-Some.ensures.steps.0) in
    let put : string_bytes c.push_if_left.new.text ≡ string_bytes c.loop-c.text ++ flat_map character_text (take c.loop-c.left (c.in-Some.c ∷ [])) = search rules in
    let next : c.in_ok-left.left ≡ c.loop-c.left - 1 = search rules in
    (first.0, first.2, one_more _ _ _ _ _ _ _ c.in-Some.c put first.1 next now.2)

pub returns : goal.returns
returns c =
    let now = c.loop-c.invariant in
    no_more _ _ now.0 _ (no_characters now.0 _ now.1 c.in-None.ensures.steps.0.0) now.2
