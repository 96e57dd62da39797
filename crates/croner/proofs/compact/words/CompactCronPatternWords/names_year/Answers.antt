use Rattle.std.proofs.Common.{sym, ◌∙◌, rules, FitsSigned, w32}
use Rattle.std.proofs.lemmas.Int.{to_z-of_z}
use Rattle.croner_pattern.specs.Schedule.{is_year_matching}
use Rattle.croner.specs.compact.Compact.{compact_meaning}
use Rattle.croner.proofs.compact.RunYears.{matching_inside, matching_outside}
use Rattle.croner.proofs.compact.words.CompactCronPatternWords.names_year.Goals as goal

pub returns-in-Some : goal.returns-in-Some
returns-in-Some c =
    let m = compact_meaning c.args.self.now in
    let f : FitsSigned w32 c.args.year = search rules in
    let inside = simp to_z-of_z at c.in-Some.ensures in
    c.names.ensures ∙ sym (matching_inside m c.in-Some.number inside.1) ∙ (λ i. is_year_matching m (inside.0 i))

pub returns : goal.returns
returns c =
    let f : FitsSigned w32 c.args.year = search rules in
    let outside = simp to_z-of_z at c.in_default.ensures in
    sym (matching_outside (compact_meaning c.args.self.now) c.args.year outside)
