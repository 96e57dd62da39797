use Rattle.std.proofs.Common.{◌∙◌, ap, arith}
use Rattle.croner_base.specs.Civil.{wall_second}
use Rattle.croner.specs.Private.search.Sought.{start_of, sought}
use Rattle.croner.specs.Private.search.Walk.{walk_start}
use Rattle.croner.proofs.zone.GapSides.{paced_start, paced_on, paced_ends}
use Rattle.croner.proofs.zone.Walks.{walking_start, walking_next, walk_reaches, something_ahead, out_far}
use Rattle.croner.proofs.zone.ErrorsKept.{error_kept}
use Rattle.croner.proofs.search.Search.walk.Goals as goal

pub returns-in_default-clause-value : goal.returns-in_default-clause-value
returns-in_default-clause-value g c =
    let search = c.args.self.now in
    let last = rw c.in_default.is at c.first_second.ensures in
    λ calm. out_far _ _ (sought g.T.CronDateTime.moment g.S.Schedule.timetable search) (start_of g.T.CronDateTime.moment search).instant search.shown last c.requires.shown

pub loop-passed-init : goal.loop-passed-init
loop-passed-init g c =
    let begun = rw c.in-Some.is at c.first_second.ensures in
    record {
      walking = walking_start _ _ _ _ _ _ (begun ∙ ap (walk_start c.args.self.now.direction c.args.self.now.inclusive) c.requires.shown);
      paced = λ calm. paced_start _ _ _ _;
    }

pub returns-in_default-next_scheduled-clause-value :
    goal.returns-in_default-next_scheduled-clause-value
returns-in_default-next_scheduled-clause-value g c =
    let none = rw c.in_default-next_scheduled.is at c.next_scheduled.ensures in
    λ calm. (wall_second c.loop-passed.wall, c.loop-passed.invariant.walking.none calm, none)

pub pass-requires-clause-scheduled : goal.pass-requires-clause-scheduled
pass-requires-clause-scheduled g c = (rw c.in-Some-next_scheduled.is at c.next_scheduled.ensures).is

pub pass-requires-clause-walking : goal.pass-requires-clause-walking
pass-requires-clause-walking g c =
    let found = rw c.in-Some-next_scheduled.is at c.next_scheduled.ensures in
    walking_next _ _ _ _ _ _ _ c.loop-passed.invariant.walking found

pub loop-passed-preserved : goal.loop-passed-preserved
loop-passed-preserved g c =
    let search = c.args.self.now in
    let start = start_of g.T.CronDateTime.moment search in
    let job = sought g.T.CronDateTime.moment g.S.Schedule.timetable search in
    let found = rw c.in-Some-next_scheduled.is at c.next_scheduled.ensures in
    let searched = g.met.S.Schedule.in_years search.schedule.now c.requires.shaped (wall_second c.in-Some-next_scheduled.found) found.is in
    let there = walking_next _ _ job _ _ _ _ c.loop-passed.invariant.walking found in
    let passed = rw c.in-GoOn.is at c.in_ok-answer.ensures in
    record {
      walking = passed.value.0;
      paced = λ calm. paced_on search.direction start.zone calm.calm start.instant _ _ _ _ (c.loop-passed.invariant.paced calm) found.on (walk_reaches _ _ job _ _ _ there) searched (passed.value.1 calm);
    }

pub returns-clause-value : goal.returns-clause-value
returns-clause-value g c =
    let start = start_of g.T.CronDateTime.moment c.args.self.now in
    λ calm.
    let ends = paced_ends c.args.self.now.direction start.zone calm.calm start.instant (wall_second c.loop-passed.wall) c.loop-passed.passed (c.loop-passed.invariant.paced calm) in
    absurd (omega arith)

pub returns-in_err-answer-clause-err : goal.returns-in_err-answer-clause-err
returns-in_err-answer-clause-err g c =
    let job = sought g.T.CronDateTime.moment g.S.Schedule.timetable c.args.self.now in
    let found = rw c.in-Some-next_scheduled.is at c.next_scheduled.ensures in
    let there = walking_next _ _ job _ _ _ _ c.loop-passed.invariant.walking found in
    error_kept c.from_residual.result c.in_err-answer.field-0.0 _ c.from_residual.ensures.1
    (record { error = c.in_err-answer.ensures.err; ahead = something_ahead _ _ job _ _ _ there found.is })
