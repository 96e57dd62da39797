use Rattle.std.proofs.Common.{◌↔◌, ℤ, List, refl, subst, rules, w64, FitsSigned, to_z, of_z}
use Rattle.std.specs.Prelude.{IsTrue}
use Rattle.std.proofs.lemmas.Int.{to_z-of_z}
use Rattle.croner_base.specs.TableZone.{table_zone}
use Rattle.cronplan.specs.declared.start.JobStart.{JobStart}
use Rattle.cronplan_jobs.specs.Jobs.{Seen, IsSeen, IsOver}
use Rattle.cronplan_jobs.specs.Private.Gathered.{Names, Shows}
use Rattle.cronplan_jobs.proofs.GatheredJobs.{adds_named, adds_shown}
use Rattle.cronplan_jobs.proofs.jobs.add_job.Goals as goal

pub returns-then-branch-clause-adds : goal.returns-then-branch-clause-adds
returns-then-branch-clause-adds c =
    let seen : Seen = record { place = c.args.place; starts = c.in_ok-starts.starts.items; end = c.in_ok-starts.end; is_frequent = c.in_ok-is_over.field-0 } in
    let is : IsSeen (table_zone c.args.table.now) c.args.span c.args.most_a_day c.args.place c.args.schedule.now seen = record {
      place_is = refl;
      lists = c.in_ok-starts.ensures.lists;
      mark = subst (λ (xs : List JobStart). IsTrue c.in_ok-is_over.field-0 ↔ IsOver c.args.most_a_day xs) c.as_slice.ensures.value c.in_ok-is_over.ensures;
    } in
    adds_named (table_zone c.args.table.now) c.args.span c.args.most_a_day c.args.place c.args.schedule.now seen c.args.gathering.now c.name_job.new.gathering is c.if-branch.true
    (subst (λ (xs : List JobStart). Names c.args.place xs c.args.gathering.now c.name_job.new.gathering) c.as_slice-then-branch.ensures.value c.in_ok-name_job.ensures)

pub returns-clause-adds : goal.returns-clause-adds
returns-clause-adds c =
    let fits : FitsSigned w64 c.in_ok-starts.end = search rules in
    let seen : Seen = record { place = c.args.place; starts = c.in_ok-starts.starts.items; end = c.in_ok-starts.end; is_frequent = c.in_ok-is_over.field-0 } in
    let is : IsSeen (table_zone c.args.table.now) c.args.span c.args.most_a_day c.args.place c.args.schedule.now seen = record {
      place_is = refl;
      lists = c.in_ok-starts.ensures.lists;
      mark = subst (λ (xs : List JobStart). IsTrue c.in_ok-is_over.field-0 ↔ IsOver c.args.most_a_day xs) c.as_slice.ensures.value c.in_ok-is_over.ensures;
    } in
    let shows = subst (λ (xs : List JobStart). Shows xs (to_z w64 (of_z w64 c.in_ok-starts.end)) c.args.gathering.now c.show_starts.new.gathering) c.as_slice-2.ensures.value c.in_ok-show_starts.ensures in
    adds_shown (table_zone c.args.table.now) c.args.span c.args.most_a_day c.args.place c.args.schedule.now seen c.args.gathering.now c.show_starts.new.gathering is c.if-branch.false
    (subst (λ (i : ℤ). Shows c.in_ok-starts.starts.items i c.args.gathering.now c.show_starts.new.gathering) (to_z-of_z w64 c.in_ok-starts.end fits) shows)
