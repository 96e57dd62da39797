use Rattle.std.proofs.Common.{◌≡◌, arith, ◌+◌, string_bytes}
use Rattle.croner_pattern.proofs.descriptions.StreaksWritten.{two_written}
use Rattle.croner_pattern.proofs.describe.lists.push_streak.Goals as goal

pub returns : goal.returns
returns c =
    let next : c.args.last ≡ c.args.first + 1 = omega (arith, c.if-last-first-ge-RANGE_DISTANCE.false, c.if-first-last.false, c.requires.ordered) in
    two_written c.args.and.now c.args.place c.args.is_last c.args.first c.args.last (string_bytes c.args.text.now) (string_bytes c.push_number-3.new.text) next
    (rw c.in_ok-push_number-2.ensures at c.in_ok-push_number-3.ensures)
