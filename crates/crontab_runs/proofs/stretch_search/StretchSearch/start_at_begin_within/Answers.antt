use Rattle.std.proofs.Common.{◌+ℤ◌, w64, FitsSigned}
use Rattle.std.proofs.lemmas.Int.{to_z-of_z}
use Rattle.crontab_runs.proofs.PartStarts.{begin_fits, offset_fits, begin_wall_fits, within_answer}
use Rattle.crontab_runs.proofs.stretch_search.StretchSearch.start_at_begin_within.Goals as goal

pub returns-then-is_within : goal.returns-then-is_within
returns-then-is_within c =
    let p = c.args.self.now in
    let begin : FitsSigned w64 p.stretch.begin = begin_fits p in
    let offset : FitsSigned w64 p.stretch.offset = offset_fits p in
    let wall : FitsSigned w64 (p.stretch.begin +ℤ p.stretch.offset) = begin_wall_fits p in
    let test = simp to_z-of_z at c.is_within.ensures in
    within_answer p c.start_at_begin.result (test.0 c.if-is_within.true) c.start_at_begin.ensures

pub returns-else-is_within : goal.returns-else-is_within
returns-else-is_within c =
    let p = c.args.self.now in
    let begin : FitsSigned w64 p.stretch.begin = begin_fits p in
    let offset : FitsSigned w64 p.stretch.offset = offset_fits p in
    let wall : FitsSigned w64 (p.stretch.begin +ℤ p.stretch.offset) = begin_wall_fits p in
    let test = simp to_z-of_z at c.is_within.ensures in
    λ w. let t = test.1 w in let f = c.if-is_within.false in absurd (cc)
