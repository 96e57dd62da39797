use Rattle.std.proofs.Common.{arith}
use Rattle.croner_summary.proofs.Shortness.{all_short, answers_none, nothing_exact, nothing_short}
use Rattle.croner_summary.proofs.field.plain_phrase.Goals as goal

pub returns-then-has_all-clause-short : goal.returns-then-has_all-clause-short
returns-then-has_all-clause-short c = all_short c.args.least c.args.greatest c.args.field.now c.phrase_of_all.result c.phrase_of_all.ensures.short

pub returns-then-first-greatest-clause-ok : goal.returns-then-first-greatest-clause-ok
returns-then-first-greatest-clause-ok c =
    nothing_exact c.args.least c.args.greatest c.args.field.now c.phrase_of_none.result c.next_plain-first.result c.next_plain-first.ensures (omega arith) c.phrase_of_none.ensures.nothing

pub returns-then-first-greatest-clause-short : goal.returns-then-first-greatest-clause-short
returns-then-first-greatest-clause-short c = nothing_short c.args.least c.args.greatest c.args.field.now c.phrase_of_none.result c.phrase_of_none.ensures.short

pub returns-in-None-clause-short : goal.returns-in-None-clause-short
returns-in-None-clause-short c = answers_none c.args.least c.args.greatest c.args.field.now c.found_phrase.result c.found_phrase.ensures.ok c.in-None.ensures
