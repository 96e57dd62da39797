use Rattle.std.proofs.Common.{rules, ◌≡◌, ◌∙◌, sym, false, pos, ◌+ℤ◌, ◌-ℤ◌, FitsSigned, w32, w64}
use Rattle.std.proofs.lemmas.Int.{to_z-of_z}
use Rattle.croner_base.specs.Table.{is_searched}
use Rattle.croner_base.proofs.time.table.check.is_met.Goals as goal

pub returns-else-is_searched : goal.returns-else-is_searched
returns-else-is_searched c =
    let f : FitsSigned w64 c.args.change.0 = search rules in
    let g : FitsSigned w32 c.args.before = c.ranges.before in
    let h : FitsSigned w32 c.args.change.1 = search rules in
    let g64 : FitsSigned w64 c.args.before = search rules in
    let h64 : FitsSigned w64 c.args.change.1 = search rules in
    let first : FitsSigned w64 (c.args.change.0 +ℤ c.args.change.1) = search rules in
    let less : FitsSigned w64 (c.args.change.0 -ℤ pos 1) = search rules in
    let second : FitsSigned w64 (c.args.change.0 -ℤ pos 1 +ℤ c.args.before) = search rules in
    let p = simp to_z-of_z at c.is_searched.ensures in
    let q = simp to_z-of_z at c.is_searched-else-is_searched.ensures in
    let miss : is_searched (c.args.change.0 +ℤ c.args.change.1) ≡ false = sym p ∙ c.if-is_searched.false in
    rw miss q
