use Rattle.std.proofs.Common.{◌≡◌, ◌∙◌, ℤ, pos, ◌-ℤ◌, ap, sym, subst, rules, arith, get_or, w64, to_z, of_z, FitsSigned}
use Rattle.std.proofs.lemmas.Int.{ints, clamps, to_z-of_z}
use Rattle.std.proofs.lemmas.List.Sums.{fold_more}
use Rattle.std.specs.Int.{int_max}
use Rattle.croner_base.specs.TableZone.{table_zone}
use Rattle.cronplan.specs.declared.start.JobStart.{JobStart}
use Rattle.cronplan.specs.Counts.{date_of}
use Rattle.cronplan.specs.Private.CountedPlan.{IsDateNumber}
use Rattle.cronplan.proofs.DayCells.{greatest_number}
use Rattle.cronplan.proofs.MomentStarts.{none_start}
use Rattle.cronplan.proofs.days.last_date.Goals as goal

pub loop-start-preserved : goal.loop-start-preserved
loop-start-preserved c =
    let had : ℤ = to_z w64 c.loop-start.last-bits in
    let x : JobStart = get_or c.args.starts.now c.loop-start.start-index none_start in
    let r : ℤ = c.max-last.result in
    let fits : FitsSigned w64 r = search rules in
    let same : to_z w64 (of_z w64 r) ≡ r = to_z-of_z w64 r fits in
    let is : r ≡ int_max had c.date_on.result = omega (arith, ints, clamps, c.max-last.ensures.value) in
    let value : r ≡ int_max had (date_of x.wall) = is ∙ ap (int_max had) c.date_on.ensures.date in
    record {
      date = same ∙ value ∙ ap (λ (i : ℤ). int_max i (date_of x.wall)) c.loop-start.invariant.date
          ∙ sym (fold_more (λ (date : ℤ) (s : JobStart). int_max date (date_of s.wall)) (date_of ((table_zone c.args.table.now).reads (c.args.span.end -ℤ pos 1))) c.args.starts.now c.loop-start.start-index none_start (omega arith));
      bound = subst IsDateNumber (sym same) (greatest_number had c.date_on.result r c.loop-start.invariant.bound c.date_on.ensures.bound is);
    }
