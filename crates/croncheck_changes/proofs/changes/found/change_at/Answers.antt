use Rattle.std.proofs.Common.{arith}
use Rattle.std.proofs.lemmas.Int.{ints}
use Rattle.croncheck_changes.proofs.ListedChanges.{is_change}
use Rattle.croncheck_changes.proofs.changes.found.change_at.Goals as goal

pub returns : goal.returns
returns c =
    is_change _ c.args.offset c.args.instant c.args.next (omega (arith, ints, c.ranges.instant))
    (omega (arith, ints, c.requires.from, c.requires.before, c.ranges.offset)) (omega (arith, ints, c.requires.from, c.requires.before, c.ranges.next))
