use Rattle.std.proofs.Common.{sym, ◌∙◌}
use Rattle.std.proofs.lemmas.Bool.{false≢true}
use Rattle.croner_base.specs.Civil.{wall_second}
use Rattle.croner.proofs.zone.ErrorsKept.{error_kept, backend_error}
use Rattle.croner.proofs.zone.Walks.{past_gap_on, carried_walked, past_gap_forward, past_gap_backward}
use Rattle.croner.specs.Private.search.Sought.{start_of}
use Rattle.croner.proofs.search.Search.pass_gap.Goals as goal
use Rattle.croner.proofs.search.Search.pass_gap.Goals.{else-matches_date-via-then-matches_date+else-lies_ahead, else-matches_date-via-else-matches_date}

pub past_gap-requires-clause-searched : goal.past_gap-requires-clause-searched
past_gap-requires-clause-searched g c =
    g.met.S.Schedule.in_years c.args.self.now.schedule.now c.requires.shaped (wall_second c.args.skipped) c.requires.scheduled

pub returns-then-not-is_fixed_time-clause-value : goal.returns-then-not-is_fixed_time-clause-value
returns-then-not-is_fixed_time-clause-value g c =
    past_gap_on g.T.CronDateTime.moment _ _ _ (start_of g.T.CronDateTime.moment c.args.self.now) c.args.skipped c.requires.in_gap c.requires.walking _
    (sym c.is_fixed_time.ensures ∙ c.if-not-is_fixed_time.true) c.past_gap.ensures

pub returns-then-lies_ahead-clause-value : goal.returns-then-lies_ahead-clause-value
returns-then-lies_ahead-clause-value g c =
    let found = rw c.in-Some.is at c.in_ok-end.ensures in
    carried_walked g.T.CronDateTime.moment _ _ _ (start_of g.T.CronDateTime.moment c.args.self.now) c.args.skipped c.requires.in_gap c.requires.walking c.in-Some.end c.in-Some.carried
    (sym c.is_fixed_time.ensures ∙ c.if-not-is_fixed_time.false) found.value c.requires.scheduled
    (c.matches_date.ensures.0 c.if-matches_date.true)
    (λ whole whole2. (c.lies_ahead.ensures whole whole2).0 c.if-lies_ahead.true)

pub returns-in-Forward-clause-value : goal.returns-in-Forward-clause-value
returns-in-Forward-clause-value g c =
    let found = rw c.in-Some.is at c.in_ok-end.ensures in
    past_gap_forward g.T.CronDateTime.moment _ _ _ (start_of g.T.CronDateTime.moment c.args.self.now) c.args.skipped c.requires.in_gap c.requires.walking c.in-Some.end c.in-Some.carried
    (sym c.is_fixed_time.ensures ∙ c.if-not-is_fixed_time.false) found.value
    (λ whole whole2 date ahead.
    elim c.else-matches_date.branch [
      | else-matches_date-via-then-matches_date+else-lies_ahead w ↦ false≢true (sym w.if-lies_ahead.false ∙ (w.lies_ahead.ensures whole whole2).1 ahead)
      | else-matches_date-via-else-matches_date w ↦ false≢true (sym w.if-matches_date.false ∙ c.matches_date.ensures.1 date)
    ])
    c.in-Forward.is

pub returns-in-Some-2-clause-value : goal.returns-in-Some-2-clause-value
returns-in-Some-2-clause-value g c =
    let found = rw c.in-Some.is at c.in_ok-end.ensures in
    let before = rw c.in-Some-2.is at c.in_ok-front-in-Backward.ensures in
    past_gap_backward g.T.CronDateTime.moment _ _ _ (start_of g.T.CronDateTime.moment c.args.self.now) c.args.skipped c.requires.in_gap c.requires.walking c.in-Some.end c.in-Some.carried
    (sym c.is_fixed_time.ensures ∙ c.if-not-is_fixed_time.false) found.value c.in-Some-2.front
    (λ whole whole2 date ahead.
    elim c.else-matches_date.branch [
      | else-matches_date-via-then-matches_date+else-lies_ahead w ↦ false≢true (sym w.if-lies_ahead.false ∙ (w.lies_ahead.ensures whole whole2).1 ahead)
      | else-matches_date-via-else-matches_date w ↦ false≢true (sym w.if-matches_date.false ∙ c.matches_date.ensures.1 date)
    ])
    c.in-Backward.is before.value

pub returns-in_err-front-in-Backward-clause-err : goal.returns-in_err-front-in-Backward-clause-err
returns-in_err-front-in-Backward-clause-err g c =
    error_kept c.from_residual-in_err-front-in-Backward.result c.in_err-front-in-Backward.field-0.0 _ c.from_residual-in_err-front-in-Backward.ensures.1
    (backend_error _ _ _ _ (λ stuck calm. stuck) c.in_err-front-in-Backward.ensures.err)
