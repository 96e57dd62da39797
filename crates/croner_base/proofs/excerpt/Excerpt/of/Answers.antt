use Rattle.croner_base.proofs.texts.ExcerptLengths.{length_excerpt}
use Rattle.croner_base.proofs.excerpt.Excerpt.of.Goals as goal

pub returns-clause-short : goal.returns-clause-short
returns-clause-short c = length_excerpt 64 c.args.text.now c.utf8.text
