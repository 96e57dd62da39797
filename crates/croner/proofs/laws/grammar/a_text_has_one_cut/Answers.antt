use Rattle.croner.proofs.parser.Cuts.{one_cut, cut_found, no_cut}
use Rattle.croner.proofs.laws.grammar.a_text_has_one_cut.Goals as goal

pub returns : goal.returns
returns c = record {
  one = λ pieces others h k. one_cut c.args.text.now pieces others h k;
  found = λ pieces e. cut_found c.args.text.now pieces e;
  none = λ e pieces h. no_cut c.args.text.now pieces e h;
}
