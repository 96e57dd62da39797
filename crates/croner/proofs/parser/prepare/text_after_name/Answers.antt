use Rattle.std.proofs.lemmas.Bool.{false≢true}
use Rattle.croner.proofs.parser.Names.{no_name_between}
use Rattle.croner.proofs.parser.prepare.text_after_name.Goals as goal

pub returns-in_default : goal.returns-in_default
returns-in_default c = no_name_between c.args.text.now c.utf8.text (λ b. false≢true (c.in_default.ensures.variant.1 b))
