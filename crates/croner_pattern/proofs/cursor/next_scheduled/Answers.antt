use Rattle.std.proofs.Common.{sym, ◌∙◌}
use Rattle.croner_pattern.proofs.civil.Scheduled.{no_time, today-reached, stays, later-none, later-reached, nearest_of_all}
use Rattle.croner_pattern.proofs.cursor.next_scheduled.Goals as goal

pub in_own_day-requires : goal.in_own_day-requires
in_own_day-requires g c = record {
  shapes = c.requires;
  days = rw c.date-date.ensures at c.month_days-days.ensures;
  room = rw c.date-date.ensures at c.has_room-room.ensures;
}

pub returns-in_err-first-clause-reached : goal.returns-in_err-first-clause-reached
returns-in_err-first-clause-reached g c =
    rw c.from_residual.ensures (no_time (g.P.PatternWords.meaning c.args.pattern.now) c.args.direction c.args.from c.in_err-first.ensures)

pub returns-in-Some-clause-reached : goal.returns-in-Some-clause-reached
returns-in-Some-clause-reached g c =
    today-reached (g.P.PatternWords.meaning c.args.pattern.now) c.args.direction c.args.from c.new.result (rw c.new.ensures.time c.in-Some.ensures)
    (c.new.ensures.date ∙ c.date-date.ensures)

pub returns-in-Some-clause-nearest : goal.returns-in-Some-clause-nearest
returns-in-Some-clause-nearest g c =
    nearest_of_all (g.P.PatternWords.meaning c.args.pattern.now) c.args.direction c.args.from c.new.result (returns-in-Some-clause-reached g c)

pub returns-then-not-room-clause-reached : goal.returns-then-not-room-clause-reached
returns-then-not-room-clause-reached g c =
    let room = rw c.date-date.ensures at c.has_room-room.ensures in
    stays (g.P.PatternWords.meaning c.args.pattern.now) c.args.direction c.args.from (sym room ∙ c.if-not-room.true) c.in_default.ensures

pub returns-in_err-date-clause-reached : goal.returns-in_err-date-clause-reached
returns-in_err-date-clause-reached g c =
    let room = rw c.date-date.ensures at c.has_room-room.ensures in
    let none = rw c.date-date.ensures at c.in_err-date.ensures in
    rw c.from_residual-in_err-date.ensures
    (later-none (g.P.PatternWords.meaning c.args.pattern.now) c.args.direction c.args.from (sym room ∙ c.if-not-room.false) c.in_default.ensures none)

pub returns-clause-reached : goal.returns-clause-reached
returns-clause-reached g c =
    let room = rw c.date-date.ensures at c.has_room-room.ensures in
    let date = rw c.date-date.ensures at c.in_ok-date.ensures in
    later-reached (g.P.PatternWords.meaning c.args.pattern.now) c.args.direction c.args.from (sym room ∙ c.if-not-room.false) c.in_default.ensures c.new-2.result
    (rw c.new-2.ensures.date date) (rw c.new-2.ensures.time c.in_ok-first.ensures)

pub returns-clause-nearest : goal.returns-clause-nearest
returns-clause-nearest g c =
    nearest_of_all (g.P.PatternWords.meaning c.args.pattern.now) c.args.direction c.args.from c.new-2.result (returns-clause-reached g c)
