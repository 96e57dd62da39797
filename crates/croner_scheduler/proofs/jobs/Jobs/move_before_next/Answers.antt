use Rattle.std.proofs.Common.{◌≡◌, refl, ap, ◌∙◌, subst, length, option_map, arith}
use Rattle.croner_scheduler.proofs.Places.{stays, changes, still_many, still_places, map_keeps}
use Rattle.croner_scheduler.specs.Ids.{job_of}
use Rattle.croner_scheduler.specs.Private.Steps.{jobs_with, job_standing_at, stop_len}
use Rattle.croner_scheduler.proofs.StopCounts.{counted_set, stops_still}
use Rattle.croner_scheduler.proofs.jobs.Jobs.move_before_next.Goals as goal

pub invariant_of-self : goal.invariant_of-self
invariant_of-self g c =
    let self = c.self.inside in
    let many = counted_set self.ids.items self.places.items self.count self.ids.next c.self.invariant.0 self.stopped c.self.invariant.1 c.in-Some.place c.args.id
    c.in-Some.ensures.found c.index_mut.result.now c.index_mut.ensures.value c.move_before_next.new.place in
    let same = ap stop_len c.move_before_next.ensures ∙ stops_still c.args.position c.index_mut.result.now in (
      still_places self.ids.items self.places.items self.count self.ids.next c.self.invariant.0 c.in-Some.place c.args.id
          c.in-Some.ensures.found c.index_mut.result.now c.index_mut.ensures.value
          c.move_before_next.new.place (map_keeps (job_standing_at c.args.position) c.index_mut.result.now c.move_before_next.new.place c.move_before_next.ensures),
      omega (arith, many, same),
    )

pub returns-in-Some-clause-jobs : goal.returns-in-Some-clause-jobs
returns-in-Some-clause-jobs g c k =
    let self = c.self.inside in
    changes self.ids.items self.places.items self.count self.ids.next c.self.invariant.0 c.in-Some.place c.args.id
    c.in-Some.ensures.found c.index_mut.result.now c.index_mut.ensures.value
    (option_map (job_standing_at c.args.position)) c.move_before_next.new.place c.move_before_next.ensures k
    ∙ ap (λ jobs. jobs_with c.args.id (job_standing_at c.args.position) k (job_of jobs k)) c.self.view_is

pub returns-in-Some-clause-count : goal.returns-in-Some-clause-count
returns-in-Some-clause-count g c =
    let self = c.self.inside in
    still_many self.ids.items self.places.items self.count self.ids.next c.self.invariant.0 c.in-Some.place c.args.id
    c.in-Some.ensures.found c.index_mut.result.now c.index_mut.ensures.value
    c.move_before_next.new.place (map_keeps (job_standing_at c.args.position) c.index_mut.result.now c.move_before_next.new.place c.move_before_next.ensures)
    ∙ ap (λ jobs. length jobs.entries) c.self.view_is

pub returns-in_default-clause-jobs : goal.returns-in_default-clause-jobs
returns-in_default-clause-jobs g c k =
    let self = c.self.inside in
    subst (λ jobs. job_of jobs k ≡ jobs_with c.args.id (job_standing_at c.args.position) k (job_of jobs k)) c.self.view_is
    (stays self.ids.items self.places.items self.count self.ids.next c.self.invariant.0 c.args.id c.in_default.ensures.none (option_map (job_standing_at c.args.position)) refl k)
