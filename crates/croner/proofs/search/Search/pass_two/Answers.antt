use Rattle.croner_base.specs.Civil.{wall_second}
use Rattle.croner.proofs.zone.ErrorsKept.{error_kept, backend_error}
use Rattle.croner.proofs.zone.Walks.{chosen_walked, past_two, can_move, searched_not_last}
use Rattle.croner.specs.Private.search.Sought.{start_of}
use Rattle.croner.proofs.search.Search.pass_two.Goals as goal
use Rattle.std.proofs.Common.{inl, inr}

pub returns-in_err-answer-clause-err : goal.returns-in_err-answer-clause-err
returns-in_err-answer-clause-err g c =
    let z = (start_of g.T.CronDateTime.moment c.args.self.now).zone in
    let searched = g.met.S.Schedule.in_years c.args.self.now.schedule.now c.requires.shaped (wall_second c.args.found) c.requires.scheduled in
    let names = c.requires.resolved in
    error_kept c.from_residual.result c.in_err-answer.field-0.0 _ c.from_residual.ensures.1
    (backend_error _ _ _ _
    (λ stuck calm holds.
    elim stuck [
      | inl e ↦ can_move z g.T.CronDateTime.moment c.args.self.now.direction _ _ calm holds searched names.0 e
      | inr l ↦ can_move z g.T.CronDateTime.moment c.args.self.now.direction _ _ calm holds searched names.1 l
    ])
    c.in_err-answer.ensures.err)

pub returns-in-Some-clause-value : goal.returns-in-Some-clause-value
returns-in-Some-clause-value g c =
    let names = c.requires.resolved in
    let taken = rw c.in-Some.is at c.in_ok-answer.ensures in
    chosen_walked g.T.CronDateTime.moment _ _ _ (start_of g.T.CronDateTime.moment c.args.self.now) c.args.found c.args.earlier c.args.later
    names.0 names.1 names.3 c.requires.walking _ c.requires.scheduled taken.one taken.value

pub unreachable-requires : goal.unreachable-requires
unreachable-requires g c =
    let searched = g.met.S.Schedule.in_years c.args.self.now.schedule.now c.requires.shaped (wall_second c.args.found) c.requires.scheduled in
    let last = rw c.in-None-one_second_on.is at c.one_second_on.ensures in
    searched_not_last _ _ searched last

pub returns-in-Some-one_second_on-clause-value : goal.returns-in-Some-one_second_on-clause-value
returns-in-Some-one_second_on-clause-value g c =
    let names = c.requires.resolved in
    let taken = rw c.in-None.is at c.in_ok-answer.ensures in
    let moved = rw c.in-Some-one_second_on.is at c.one_second_on.ensures in
    past_two g.T.CronDateTime.moment _ _ _ (start_of g.T.CronDateTime.moment c.args.self.now) c.args.found c.args.earlier c.args.later
    names.0 names.1 names.3 c.requires.walking _ taken.value moved
