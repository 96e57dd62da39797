use Rattle.std.proofs.Common.{lit<, sym}
use Rattle.std.proofs.lemmas.Option.{MatchOption-at_none}
use Rattle.std.proofs.lemmas.Str.Pattern.{strip_prefix_char}
use Rattle.croner.proofs.parser.Starred.{no_plus}
use Rattle.croner.proofs.parser.settle.without_plus.Goals as goal

pub returns-in-None : goal.returns-in-None
returns-in-None c =
    sym (no_plus c.args.text.now (MatchOption-at_none _ _ c.in-None.is (strip_prefix_char 43 c.args.text.now _ c.strip_prefix.ensures.cases (lit< tt))))
