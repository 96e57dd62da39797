use Rattle.std.proofs.Common.{rules}
use Rattle.croner_summary.proofs.InOrder.{answers_in_order}
use Rattle.croner_summary.proofs.Shortness.{answers_exact, answers_short, found_short}
use Rattle.croner_summary.proofs.field.shorter_phrase.Goals as goal

pub returns-then-have_at_most-clause-short : goal.returns-then-have_at_most-clause-short
returns-then-have_at_most-clause-short c = found_short c.args.least c.args.greatest c.args.field.now c.args.found c.args.piece c.requires.best (search rules)

pub returns-clause-ok : goal.returns-clause-ok
returns-clause-ok c = answers_exact c.args.least c.args.greatest c.args.field.now c.args.piece c.phrase_of.result c.phrase_of.ensures.ok c.requires.best

pub returns-clause-short : goal.returns-clause-short
returns-clause-short c = answers_short c.args.least c.args.greatest c.args.field.now c.args.piece c.phrase_of.result c.phrase_of.ensures.ok c.requires.best

pub returns-clause-ordered : goal.returns-clause-ordered
returns-clause-ordered c = answers_in_order c.args.least c.args.greatest c.args.field.now c.args.piece c.phrase_of.result c.phrase_of.ensures.ok c.requires.best
