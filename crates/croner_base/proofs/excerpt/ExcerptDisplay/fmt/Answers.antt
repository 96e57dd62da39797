use Rattle.std.proofs.Common.{ap, ◌∙◌}
use Rattle.std.proofs.Output.{has_written_of_eq}
use Rattle.croner_base.specs.Excerpt.{excerpt}
use Rattle.croner_base.proofs.texts.ExcerptLengths.{long_written}
use Rattle.croner_base.proofs.excerpt.ExcerptDisplay.fmt.Goals as goal

pub returns-clause-writes : goal.returns-clause-writes
returns-clause-writes g c = λ p ok.
    let h = c.write-2.ensures.writes p ok in
    has_written_of_eq _ _ _ _ _
    (long_written c.most-most.result c.text-text.result.now c.character_count-count.result c.character_count-count.ensures c.if-count-most.false ∙ ap (excerpt c.most-most.result) c.text-text.ensures ∙ ap (λ m. excerpt m c.args.self.now.text.now) c.most-most.ensures.value)
    h
