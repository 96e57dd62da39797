use Rattle.std.proofs.Common.{◌≡◌, ◌∙◌, ◌+◌, ◌<◌, ◌≤ℤ◌, ℤ, List, [], ◌∷◌, ◌++◌, length, take, fold, ap, sym, subst, arith, rules, w64, FitsSigned, to_z, of_z}
use Rattle.std.proofs.lemmas.Int.{to_z-of_z}
use Rattle.std.proofs.lemmas.List.{take_more, length-take-le, take_all}
use Rattle.std.specs.List.{All}
use Rattle.croner_base.specs.TableZone.{table_zone}
use Rattle.cronplan_jobs.specs.declared.listing.Schedule.{Schedule}
use Rattle.cronplan.specs.declared.start.JobStart.{JobStart}
use Rattle.cronplan_jobs.specs.Jobs.{AreSeen, end_with}
use Rattle.cronplan.specs.Starts.{Merges}
use Rattle.cronplan_jobs.proofs.GatheredJobs.{Gathered, gathered_none, gathered_more}
use Rattle.cronplan.proofs.SpanSeconds.{span_at}
use Rattle.cronplan_jobs.proofs.jobs.plan_of.Goals as goal

pub loop-place-init : goal.loop-place-init
loop-place-init c =
    let fits : FitsSigned w64 c.args.span.end = search rules in
    gathered_none (table_zone c.args.table.now) c.args.span c.args.most_a_day _ c.new.ensures.items c.new-2.ensures.items (to_z-of_z w64 c.args.span.end fits)
    (span_at c.args.span.first c.args.span.end c.args.span.held).order

pub loop-place-preserved : goal.loop-place-preserved
loop-place-preserved c =
    let i = c.loop-place.place in
    let j : Schedule = c.index-jobs-place.result in
    let inside : i < length c.args.jobs.now = omega arith in
    let more : take (i + 1) c.args.jobs.now ≡ take i c.args.jobs.now ++ j ∷ [] =
    take_more c.args.jobs.now i j inside ∙ ap (λ (x : Schedule). take i c.args.jobs.now ++ x ∷ []) (sym c.index-jobs-place.is) in
    subst (λ (js : List Schedule). Gathered (table_zone c.args.table.now) c.args.span c.args.most_a_day js c.add_job.new.gathering) (sym more)
    (gathered_more (table_zone c.args.table.now) c.args.span c.args.most_a_day i (take i c.args.jobs.now) j c.loop-place.gathering c.add_job.new.gathering
    (sym (length-take-le i c.args.jobs.now (omega arith))) c.loop-place.invariant c.in_ok-add_job.ensures.adds)

pub of_starts-requires : goal.of_starts-requires
of_starts-requires c =
    let fits : FitsSigned w64 c.args.span.first = search rules in
    subst (λ (i : ℤ). All (λ (s : JobStart). i ≤ℤ s.second) c.loop-place.gathering.shown.items) (sym (to_z-of_z w64 c.args.span.first fits)) c.loop-place.invariant.first

pub returns-clause-plan : goal.returns-clause-plan
returns-clause-plan c =
    let z = table_zone c.args.table.now in
    let held = c.loop-place.invariant in
    let whole : take c.loop-place.place c.args.jobs.now ≡ c.args.jobs.now = take_all c.loop-place.place c.args.jobs.now (omega arith) in
    let first_fits : FitsSigned w64 c.args.span.first = search rules in
    let end_fits : FitsSigned w64 c.loop-place.gathering.end = search rules in
    let starts = c.of_starts.result.starts.items in
    let kept = c.of_starts.result.span in
    let one : Merges c.loop-place.gathering.shown.items c.args.span.first (to_z w64 (of_z w64 c.loop-place.gathering.end)) starts kept =
    subst (λ (i : ℤ). Merges c.loop-place.gathering.shown.items i (to_z w64 (of_z w64 c.loop-place.gathering.end)) starts kept) (to_z-of_z w64 c.args.span.first first_fits) c.of_starts.ensures in
    let two : Merges c.loop-place.gathering.shown.items c.args.span.first (fold end_with c.args.span.end held.seen) starts kept =
    subst (λ (i : ℤ). Merges c.loop-place.gathering.shown.items c.args.span.first i starts kept) (to_z-of_z w64 c.loop-place.gathering.end end_fits ∙ held.end) one in
    record {
      seen = held.seen;
      are_seen = subst (λ (js : List Schedule). AreSeen z c.args.span c.args.most_a_day 0 js held.seen) whole held.are_seen;
      merges = subst (λ (xs : List JobStart). Merges xs c.args.span.first (fold end_with c.args.span.end held.seen) starts kept) held.shown two;
      named = held.named;
    }
