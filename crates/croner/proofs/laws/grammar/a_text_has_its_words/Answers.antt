use Rattle.croner.proofs.parser.WordLists.{are_words, words_are}
use Rattle.croner.proofs.laws.grammar.a_text_has_its_words.Goals as goal

pub returns : goal.returns
returns c = record {
  are = are_words c.args.text.now c.utf8.text;
  alone = λ others h. words_are c.args.text.now others c.utf8.text h;
}
