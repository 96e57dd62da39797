use Rattle.std.proofs.Common.{rules, arith, refl, pos, ◌-ℤ◌, w64, FitsSigned}
use Rattle.std.proofs.lemmas.Int.{ints, to_z-of_z}
use Rattle.croncheck_changes.proofs.changes.cron.is_due_there.Goals as goal

pub returns : goal.returns
returns c =
    let second : FitsSigned w64 c.args.second = c.ranges.second in
    let from : FitsSigned w64 c.args.change.before = omega (arith, ints, c.requires.years.before_from, c.requires.years.before_to) in
    let to : FitsSigned w64 c.args.change.after = omega (arith, ints, c.requires.years.after_from, c.requires.years.after_to) in
    let before : FitsSigned w64 (c.args.change.before -ℤ pos 1) = omega (arith, ints, c.requires.years.before_from, c.requires.years.before_to) in
    let shown : FitsSigned w64 c.minute_of-shown.result = search rules in
    let there : FitsSigned w64 c.minute_there-minute.result = search rules in
    let due : FitsSigned w64 c.due_after.result = search rules in
    let minute : FitsSigned w64 c.minute_of.result = search rules in
    let shown_is = simp to_z-of_z at c.minute_of-shown.ensures in
    let there_is = simp to_z-of_z at c.minute_there-minute.ensures in
    let due_is = simp to_z-of_z at c.due_after.ensures in
    let minute_is = simp to_z-of_z at c.minute_of.ensures in
    simp to_z-of_z (rw (due_is, shown_is, there_is, minute_is) refl)
