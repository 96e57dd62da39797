use Rattle.std.proofs.Common.{[], ◌++◌, refl, ◌∙◌, rules, arith}
use Rattle.std.proofs.lemmas.Str.{cons_from_encodes, encodes-chars}
use Rattle.std.proofs.Output.{writes_in_calls_nil, has_written_append, has_written_of_eq}
use Rattle.std.specs.Str.{chars}
use Rattle.croner_base.specs.Excerpt.{shown}
use Rattle.croner_base.proofs.texts.ExcerptLengths.{one_more_shown, none_more_shown}
use Rattle.croner_base.proofs.excerpt.FrontDisplay.fmt.Goals as goal

pub loop-left-init : goal.loop-left-init
loop-left-init g c = (
  search rules,
  search rules,
  λ plain. ([], chars c.text-text.result.now, record { wrote = writes_in_calls_nil _ _; plain = plain }, search (rules, encodes-chars c.text-text.result.now c.text-text.utf8), rw c.text-text.ensures refl),
)

pub loop-left-preserved : goal.loop-left-preserved
loop-left-preserved g c = (
  search rules,
  search rules,
  λ plain.
      let now = c.loop-left.invariant.2 plain in
      let first = cons_from_encodes now.1 _ c.in-Some.c (now.3 ∙ c.in-Some.ensures.steps.0) in
      (now.0 ++ shown c.in-Some.c, first.0, has_written_append _ _ _ _ _ _ now.2 (search rules), first.2, one_more_shown _ _ _ _ _ _ _ first.1 (omega arith) now.4),
)

pub returns-in_default-clause-writes : goal.returns-in_default-clause-writes
returns-in_default-clause-writes g c = λ plain ok.
    let now = c.loop-left.invariant.2 plain in
    has_written_of_eq _ _ _ _ _ (none_more_shown _ _ _ _ _ now.3 c.in_default.ensures.steps.0.0 now.4) now.2
