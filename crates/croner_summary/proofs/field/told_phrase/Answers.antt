use Rattle.croner_summary.proofs.InOrder.{answers_in_order}
use Rattle.croner_summary.proofs.Shortness.{answers_exact, answers_short}
use Rattle.croner_summary.proofs.field.told_phrase.Goals as goal

pub returns-then-not-may_be_listed-clause-ok : goal.returns-then-not-may_be_listed-clause-ok
returns-then-not-may_be_listed-clause-ok c =
    answers_exact c.args.least c.args.greatest c.args.field.now c.args.piece c.phrase_of.result c.phrase_of.ensures.ok c.requires.best

pub returns-then-not-may_be_listed-clause-short : goal.returns-then-not-may_be_listed-clause-short
returns-then-not-may_be_listed-clause-short c =
    answers_short c.args.least c.args.greatest c.args.field.now c.args.piece c.phrase_of.result c.phrase_of.ensures.ok c.requires.best

pub returns-then-not-may_be_listed-clause-ordered : goal.returns-then-not-may_be_listed-clause-ordered
returns-then-not-may_be_listed-clause-ordered c =
    answers_in_order c.args.least c.args.greatest c.args.field.now c.args.piece c.phrase_of.result c.phrase_of.ensures.ok c.requires.best
