use Rattle.croner_base.specs.declared.time.Direction.TheVariants.{Backward}
use Rattle.croner.proofs.zone.GapSides.{gap_front_of, side_out}
use Rattle.croner.specs.Private.search.Sought.{start_of}
use Rattle.croner.proofs.search.Search.gap_front.Goals as goal

pub returns-in_default-clause-value : goal.returns-in_default-clause-value
returns-in_default-clause-value g c =
    let out = rw c.in_default.is at c.in_ok-side.ensures.value in
    side_out g.T.CronDateTime.moment g.T.CronDateTime.can_lack_memory Backward (start_of g.T.CronDateTime.moment c.args.self.now).zone c.args.skipped c.requires.in_gap out

pub returns-clause-value : goal.returns-clause-value
returns-clause-value g c =
    let side = rw c.in-Some.is at c.in_ok-side.ensures.value in
    gap_front_of g.T.CronDateTime.moment g.T.CronDateTime.can_lack_memory Backward (start_of g.T.CronDateTime.moment c.args.self.now).zone c.args.skipped c.requires.in_gap _ side
