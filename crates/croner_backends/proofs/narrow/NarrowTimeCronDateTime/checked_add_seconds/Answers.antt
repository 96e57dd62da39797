use Rattle.std.proofs.Common.{FitsSigned, w64}
use Rattle.std.proofs.lemmas.Int.{to_z-of_z}
use Rattle.croner_backends.proofs.Narrowed.{moved_kept, not_moved}
use Rattle.croner_backends.proofs.narrow.NarrowTimeCronDateTime.checked_add_seconds.Goals as goal

pub returns-in-Some-clause-value : goal.returns-in-Some-clause-value
returns-in-Some-clause-value c =
    let f : FitsSigned w64 c.args.seconds = c.ranges.seconds in
    let m = simp to_z-of_z at (rw c.in-Some.is at c.in_ok-there.ensures.value) in
    moved_kept c.args.self.now c.in-Some.there c.args.seconds c.kept.result m c.kept.ensures.some c.kept.ensures.value

pub returns-in-None-clause-value : goal.returns-in-None-clause-value
returns-in-None-clause-value c =
    let f : FitsSigned w64 c.args.seconds = c.ranges.seconds in
    let m = simp to_z-of_z at (rw c.in-None.is at c.in_ok-there.ensures.value) in
    not_moved c.args.self.now c.args.seconds m
