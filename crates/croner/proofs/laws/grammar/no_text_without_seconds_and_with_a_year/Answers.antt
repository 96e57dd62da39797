use Rattle.croner.proofs.parser.NoTexts.{no_texts}
use Rattle.croner.proofs.laws.grammar.no_text_without_seconds_and_with_a_year.Goals as goal

pub returns : goal.returns
returns c = λ s e f m h. no_texts s c.args.text.now e f m h
