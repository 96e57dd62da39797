use Rattle.std.proofs.Common.{arith, ◌∙◌, refl, sym}
use Rattle.std.proofs.lemmas.Int.{ints}
use Rattle.croner_base.proofs.calendar.WallSteps.{second_of}
use Rattle.croner.proofs.search.distance.seconds_earlier.Goals as goal

pub returns-then-seconds-place : goal.returns-then-seconds-place
returns-then-seconds-place c =
    let there = second_of _ _ _ (c.new.ensures.date ∙ c.date.ensures) c.new.ensures.time in
    let here = second_of c.args.civil _ _ refl (sym c.time.ensures) in
    omega (arith, ints)

pub returns-in-Some : goal.returns-in-Some
returns-in-Some c =
    let there = second_of _ _ _ c.new-in-Some.ensures.date c.new-in-Some.ensures.time in
    let here = second_of c.args.civil _ _ (sym c.date-2.ensures) (sym c.time.ensures) in
    let moved = rw c.in-Some.is at c.day_before.ensures in
    omega (arith, ints)

pub returns-in-None : goal.returns-in-None
returns-in-None c =
    let last = rw (c.in-None.is, c.date-2.ensures) at c.day_before.ensures in
    last.year_is
