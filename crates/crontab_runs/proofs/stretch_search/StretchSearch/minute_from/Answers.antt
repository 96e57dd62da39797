use Rattle.std.proofs.Common.{◌≡◌, ◌∙◌, sym, rules, pos, ◌+ℤ◌, w64, FitsSigned}
use Rattle.std.proofs.lemmas.Int.{to_z-of_z}
use Rattle.std.specs.Int.{int_max}
use Rattle.crontab_runs.specs.Private.Found.{least_in}
use Rattle.crontab_runs.specs.Starts.{minute_of}
use Rattle.crontab_runs.proofs.PartStarts.{from_fits, offset_fits, wall_fits, wall_late_fits, from_forward, from_backward}
use Rattle.crontab_runs.proofs.stretch_search.StretchSearch.minute_from.Goals as goal

pub returns-in-Forward : goal.returns-in-Forward
returns-in-Forward c =
    let p = c.args.self.now in
    let from : FitsSigned w64 p.from = from_fits p in
    let offset : FitsSigned w64 p.stretch.offset = offset_fits p in
    let wall : FitsSigned w64 (p.from +ℤ p.stretch.offset) = wall_fits p in
    let late : FitsSigned w64 (p.from +ℤ p.stretch.offset +ℤ pos 59) = wall_late_fits p in
    let answer : FitsSigned w64 c.max.result = search rules in
    let minute : FitsSigned w64 c.minute_of.result = search rules in
    let least : FitsSigned w64 c.least_minute.result = search rules in
    let a : c.minute_of.result ≡ minute_of (p.from +ℤ p.stretch.offset +ℤ pos 59) = simp to_z-of_z at c.minute_of.ensures in
    let v : c.max.result ≡ int_max c.minute_of.result c.least_minute.result = simp to_z-of_z at c.max.ensures.value in
    to_z-of_z w64 c.max.result answer ∙ v ∙ rw (a, c.least_minute.ensures) (sym (from_forward p.direction (p.from +ℤ p.stretch.offset) (least_in p) c.in-Forward.is))

pub returns-in-Backward : goal.returns-in-Backward
returns-in-Backward c =
    let p = c.args.self.now in
    let from : FitsSigned w64 p.from = from_fits p in
    let offset : FitsSigned w64 p.stretch.offset = offset_fits p in
    let wall : FitsSigned w64 (p.from +ℤ p.stretch.offset) = wall_fits p in
    let answer : FitsSigned w64 c.minute_of-in-Backward.result = search rules in
    let a : c.minute_of-in-Backward.result ≡ minute_of (p.from +ℤ p.stretch.offset) = simp to_z-of_z at c.minute_of-in-Backward.ensures in
    to_z-of_z w64 c.minute_of-in-Backward.result answer ∙ a ∙ sym (from_backward p.direction (p.from +ℤ p.stretch.offset) (least_in p) c.in-Backward.is)
