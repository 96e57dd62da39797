use Rattle.croner.specs.crontable.Tables.{patterns_of}
use Rattle.croner.proofs.crontable.KeptRuns.{kept_after, held_after}
use Rattle.croner.proofs.crontable.iterator.CronTableIterator.step_to.Goals as goal

pub invariant_of-self-clause-known : goal.invariant_of-self-clause-known
invariant_of-self-clause-known g c =
    let moment = g.T.CronDateTime.moment in
    let old = c.args.self.now in
    kept_after moment (patterns_of old.table.now) old.direction old.is_first old.inclusive (moment old.position) (moment c.args.run) old.kept c.let_go_unless.new.self c.keeps_over-keeps.result
    c.let_go_unless.ensures.stays c.let_go_unless.ensures.nothing c.keeps_over-keeps.ensures.moved c.keeps_over-keeps.ensures.within old.whole c.requires.leads c.requires.ahead old.known

pub invariant_of-self-clause-held : goal.invariant_of-self-clause-held
invariant_of-self-clause-held g c = λ begun run is.
    absurd (held_after c.args.self.now.kept c.let_go_unless.new.self c.keeps_over-keeps.result c.let_go_unless.ensures.stays c.let_go_unless.ensures.nothing c.requires.given begun run is)
