use Rattle.std.proofs.Common.{◌∙◌, refl, arith, pos, ◌-ℤ◌, FitsSigned, w64}
use Rattle.std.proofs.lemmas.Bool.{false≢true}
use Rattle.std.proofs.lemmas.Int.{ints, to_z-of_z}
use Rattle.croncheck_changes.proofs.WatchedYears.{held_before, moment_at}
use Rattle.croncheck_changes.proofs.changes.Changes.second_before.Goals as goal

pub unreachable-requires : goal.unreachable-requires
unreachable-requires c =
    let w = c.requires.1 in
    let i = c.args.change.instant in
    let f : FitsSigned w64 i = omega (arith, ints, w.from, w.before) in
    let g : FitsSigned w64 (i -ℤ pos 1) = omega (arith, ints, w.from, w.before) in
    let ok = simp to_z-of_z at c.in-Err.ensures.ok in
    false≢true (ok.1 (held_before c.args.self.now.start.second i (i -ℤ pos 1) w refl))

pub returns : goal.returns
returns c =
    let w = c.requires.1 in
    let i = c.args.change.instant in
    let f : FitsSigned w64 i = omega (arith, ints, w.from, w.before) in
    let g : FitsSigned w64 (i -ℤ pos 1) = omega (arith, ints, w.from, w.before) in
    let second = simp to_z-of_z at c.in-Ok.ensures.value in
    moment_at c.args.self.now.start c.in-Ok.time (i -ℤ pos 1) (c.in-Ok.ensures.table ∙ c.table.ensures) second
