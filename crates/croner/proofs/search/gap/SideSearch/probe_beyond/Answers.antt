use Rattle.croner.proofs.zone.GapSides.{shown_one, shown_two, next_skipped}
use Rattle.croner.proofs.zone.Walks.{searched_not_last}
use Rattle.croner.proofs.search.gap.SideSearch.probe_beyond.Goals as goal

pub unreachable-requires : goal.unreachable-requires
unreachable-requires g c =
    let last = rw c.in_default.is at c.seconds_on.ensures in
    searched_not_last _ _ c.requires.searched last

pub returns-in-Ok-Single : goal.returns-in-Ok-Single
returns-in-Ok-Single g c =
    let moved = rw c.in-Some.is at c.seconds_on.ensures in
    let named = rw (c.in-Ok-Single.is, c.in-Ok-Single.field-0-is) at c.resolve_civil.ensures in
    (moved, shown_one g.T.CronDateTime.moment (g.T.CronDateTime.moment c.args.self.now.time.now).zone c.in-Some.wall c.in-Ok-Single.only named.value)

pub returns-in-Ok-Ambiguous : goal.returns-in-Ok-Ambiguous
returns-in-Ok-Ambiguous g c =
    let moved = rw c.in-Some.is at c.seconds_on.ensures in
    let named = rw (c.in-Ok-Ambiguous.is, c.in-Ok-Ambiguous.field-0-is) at c.resolve_civil.ensures in
    (moved, shown_two g.T.CronDateTime.moment (g.T.CronDateTime.moment c.args.self.now.time.now).zone c.in-Some.wall c.in-Ok-Ambiguous.earlier _ named.value)

pub returns-in-Ok-Gap : goal.returns-in-Ok-Gap
returns-in-Ok-Gap g c =
    let moved = rw c.in-Some.is at c.seconds_on.ensures in
    let named = rw (c.in-Ok-Gap.is, c.in-Ok-Gap.field-0-is) at c.resolve_civil.ensures in
    next_skipped (g.T.CronDateTime.moment c.args.self.now.time.now).zone _ c.in-Some.wall moved named.value
