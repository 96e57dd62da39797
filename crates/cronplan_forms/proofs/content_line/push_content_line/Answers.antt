use Rattle.std.proofs.Common.{◌≡◌, ◌++◌, refl, ◌∙◌, string_bytes, rules, arith}
use Rattle.std.proofs.lemmas.Str.{cons_from_encodes, encodes-chars}
use Rattle.std.specs.Str.{chars}
use Rattle.cronplan_forms.specs.ContentLines.{line_end, placed, used_with, content_line}
use Rattle.cronplan_forms.proofs.EscapedTexts.{no_characters}
use Rattle.cronplan_forms.proofs.FoldedLines.{short, whole, one_more, no_more}
use Rattle.cronplan_forms.proofs.content_line.push_content_line.Goals as goal

pub returns-in_err-used-clause-short : goal.returns-in_err-used-clause-short
returns-in_err-used-clause-short c = short c.args.line.now

pub returns-in_err-used-clause-whole : goal.returns-in_err-used-clause-whole
returns-in_err-used-clause-whole c = whole c.args.line.now c.utf8.line

pub loop-c-init : goal.loop-c-init
loop-c-init c = (chars c.args.line.now, search (rules, encodes-chars c.args.line.now c.utf8.line), refl, omega arith)

pub loop-c-preserved : goal.loop-c-preserved
loop-c-preserved c =
    let now = c.loop-c.invariant in
    let first = cons_from_encodes now.0 _ c.in-Some.c (now.1 ∙ c.in-Some.ensures.steps.0) in
    let put : string_bytes c.push_placed.new.text ≡ string_bytes c.loop-c.text ++ placed c.loop-c.used c.in-Some.c = search rules in
    let next : c.in_ok-used.used ≡ used_with c.loop-c.used c.in-Some.c = search rules in
    (first.0, first.2, one_more _ _ _ _ _ _ _ c.in-Some.c put first.1 next now.2, search rules)

pub returns-clause-value : goal.returns-clause-value
unfolding content_line
returns-clause-value c =
    let now = c.loop-c.invariant in
    let all : string_bytes c.loop-c.text ++ line_end ≡ string_bytes c.args.text.now ++ content_line c.args.line.now =
    no_more (string_bytes c.args.text.now) _ now.0 _ _ (no_characters now.0 _ now.1 c.in-None.ensures.steps.0.0) now.2 in
    search (rules, all)

pub returns-clause-short : goal.returns-clause-short
returns-clause-short c = short c.args.line.now

pub returns-clause-whole : goal.returns-clause-whole
returns-clause-whole c = whole c.args.line.now c.utf8.line
