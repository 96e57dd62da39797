use Rattle.std.proofs.Common.{rules, MatchOption, ◌≡◌, ◌∙◌, ap, sym, subst, arith, ◌<ℤ◌, ◌≤ℤ◌, ℤ, w64, of_z, to_z, FitsSigned}
use Rattle.std.proofs.lemmas.Int.{ints, to_z-of_z}
use Rattle.croner_base.specs.declared.time.table.ClockTable.{ClockTable}
use Rattle.croner_base.specs.TableZone.{table_zone}
use Rattle.crontab_runs.specs.MadeUp.{MakesUpForNone, MakesUpFrom}
use Rattle.crontab_runs.specs.Views.{cron_job_of}
use Rattle.crontab_runs.proofs.MadeUpStarts.{none_inside}
use Rattle.crontab_runs.proofs.job.CrontabJob.first_made_up.Goals as goal

pub returns-then-second-stretch : goal.returns-then-second-stretch
returns-then-second-stretch c =
    let job = cron_job_of c.args.self.now in
    let time = c.args.time.now in
    let stretch = c.after_changes-stretch.result in
    let found = c.first_at_begin.result in
    let held : FitsSigned w64 c.second-second.result = search rules in
    let begin : FitsSigned w64 stretch.begin = omega (arith, ints, stretch.fits.begin_low, stretch.fits.order, stretch.fits.end_high) in
    let table : stretch.table.now ≡ time.table.now = c.after_changes-stretch.ensures.table ∙ c.table-table.ensures in
    let here : c.second-second.result ≡ stretch.begin = sym (to_z-of_z w64 c.second-second.result held) ∙ ap (to_z w64) c.if-second-stretch.true ∙ to_z-of_z w64 stretch.begin begin in
    let at : stretch.begin ≡ time.second = sym here ∙ c.second-second.ensures.value in
    subst (λ (i : ℤ). MatchOption found (MakesUpForNone job (table_zone time.table.now) i) (MakesUpFrom job (table_zone time.table.now) i)) at
    (subst (λ (t : ClockTable). MatchOption found (MakesUpForNone job (table_zone t) stretch.begin) (MakesUpFrom job (table_zone t) stretch.begin)) table c.first_at_begin.ensures)

pub returns-else-second-stretch : goal.returns-else-second-stretch
returns-else-second-stretch c =
    let job = cron_job_of c.args.self.now in
    let time = c.args.time.now in
    let stretch = c.after_changes-stretch.result in
    let held : FitsSigned w64 c.second-second.result = search rules in
    let table : stretch.table.now ≡ time.table.now = c.after_changes-stretch.ensures.table ∙ c.table-table.ensures in
    let second : to_z w64 (of_z w64 c.second-second.result) ≡ time.second = to_z-of_z w64 c.second-second.result held ∙ c.second-second.ensures.value in
    let from : stretch.begin ≤ℤ time.second = omega (arith, ints, c.after_changes-stretch.ensures.begin, c.changes_until.ensures.begin, second) in
    let until : time.second <ℤ stretch.end = omega (arith, ints, c.after_changes-stretch.ensures.end, c.changes_until.ensures.end, second) in
    let other : time.second ≡ stretch.begin → ⊥ = λ same. c.if-second-stretch.false (ap (of_z w64) (c.second-second.ensures.value ∙ same)) in
    let after : stretch.begin <ℤ time.second = omega (arith, ints, from, other) in
    subst (λ (t : ClockTable). MakesUpForNone job (table_zone t) time.second) table
    (none_inside (table_zone stretch.table.now) stretch.begin stretch.end stretch.offset stretch.before stretch.fits job time.second after until)
