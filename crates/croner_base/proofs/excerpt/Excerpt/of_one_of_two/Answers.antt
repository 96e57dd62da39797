use Rattle.croner_base.proofs.texts.ExcerptLengths.{length_excerpt}
use Rattle.croner_base.proofs.excerpt.Excerpt.of_one_of_two.Goals as goal

pub returns-clause-short : goal.returns-clause-short
returns-clause-short c = length_excerpt 32 c.args.text.now c.utf8.text
