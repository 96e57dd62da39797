use Rattle.std.proofs.Common.{◌≡◌, refl, ap, ◌∙◌, subst, length, IfOk, IfErr, None, option_map, arith}
use Rattle.croner_scheduler.proofs.Places.{has_none, is_job, stays, changes, still_many, still_places, map_keeps}
use Rattle.croner_scheduler.specs.Ids.{job_of}
use Rattle.croner_scheduler.specs.Private.Steps.{jobs_with, ArePartsOf}
use Rattle.croner_scheduler.proofs.StopCounts.{counted_after, counted_set, stopped_few, one_stop}
use Rattle.croner_scheduler.proofs.jobs.Jobs.exchange.Goals as goal

pub overflow_sub-others : goal.overflow_sub-others
overflow_sub-others g c =
    let self = c.self.inside in
    let many = counted_set self.ids.items self.places.items self.count self.ids.next c.self.invariant.0 self.stopped c.self.invariant.1 c.in-Some.place c.args.id
    c.in-Some.ensures.found c.index.result.now c.index.ensures None in
    omega (arith, many, c.stop_len.ensures)

pub overflow_add-self : goal.overflow_add-self
overflow_add-self g c =
    let self = c.self.inside in
    let few = stopped_few self.ids.items self.places.items self.count self.ids.next c.self.invariant.0 self.stopped c.self.invariant.1 in
    let one = one_stop c.index-in-Some.result.now in
    omega (arith, few, one, c.stop_len-in-Some.ensures, self.places.ok.0, self.places.ok.1, self.places.small)

pub invariant_of-self : goal.invariant_of-self
invariant_of-self g c =
    let self = c.self.inside in
    let least = counted_set self.ids.items self.places.items self.count self.ids.next c.self.invariant.0 self.stopped c.self.invariant.1 c.in-Some.place c.args.id
    c.in-Some.ensures.found c.index.result.now c.index.ensures None in
    let many = counted_after self.ids.items self.places.items self.count self.ids.next c.self.invariant.0 self.stopped c.self.invariant.1 c.in-Some.place c.args.id
    c.in-Some.ensures.found c.index.result.now c.index.ensures c.exchange-out.new.place c.index-in-Some.result.now c.index-in-Some.ensures in (
      still_places self.ids.items self.places.items self.count self.ids.next c.self.invariant.0 c.in-Some.place c.args.id
          c.in-Some.ensures.found c.index_mut.result.now c.index_mut.ensures.value
          c.exchange-out.new.place (map_keeps (λ _. c.args.other) c.index_mut.result.now c.exchange-out.new.place c.exchange-out.ensures.after),
      omega (arith, many, least, c.stop_len.ensures, c.stop_len-in-Some.ensures),
    )

pub returns-in-Some-clause-parts : goal.returns-in-Some-clause-parts
returns-in-Some-clause-parts g c =
    let self = c.self.inside in
    subst (λ o. IfOk c.exchange-out.result (ArePartsOf o))
    (is_job self.ids.items self.places.items self.count self.ids.next c.self.invariant.0 c.in-Some.place c.args.id
    c.in-Some.ensures.found c.index_mut.result.now c.index_mut.ensures.value
    ∙ ap (λ jobs. job_of jobs c.args.id) c.self.view_is)
    c.exchange-out.ensures.parts

pub returns-in-Some-clause-returned : goal.returns-in-Some-clause-returned
returns-in-Some-clause-returned g c =
    let self = c.self.inside in
    subst (λ o. IfErr c.exchange-out.result (λ returned. (returned ≡ c.args.other) × (o ≡ None)))
    (is_job self.ids.items self.places.items self.count self.ids.next c.self.invariant.0 c.in-Some.place c.args.id
    c.in-Some.ensures.found c.index_mut.result.now c.index_mut.ensures.value
    ∙ ap (λ jobs. job_of jobs c.args.id) c.self.view_is)
    c.exchange-out.ensures.returned

pub returns-in-Some-clause-jobs : goal.returns-in-Some-clause-jobs
returns-in-Some-clause-jobs g c k =
    let self = c.self.inside in
    changes self.ids.items self.places.items self.count self.ids.next c.self.invariant.0 c.in-Some.place c.args.id
    c.in-Some.ensures.found c.index_mut.result.now c.index_mut.ensures.value
    (option_map (λ _. c.args.other)) c.exchange-out.new.place c.exchange-out.ensures.after k
    ∙ ap (λ jobs. jobs_with c.args.id (λ _. c.args.other) k (job_of jobs k)) c.self.view_is

pub returns-in-Some-clause-count : goal.returns-in-Some-clause-count
returns-in-Some-clause-count g c =
    let self = c.self.inside in
    still_many self.ids.items self.places.items self.count self.ids.next c.self.invariant.0 c.in-Some.place c.args.id
    c.in-Some.ensures.found c.index_mut.result.now c.index_mut.ensures.value
    c.exchange-out.new.place (map_keeps (λ _. c.args.other) c.index_mut.result.now c.exchange-out.new.place c.exchange-out.ensures.after)
    ∙ ap (λ jobs. length jobs.entries) c.self.view_is

pub returns-in-None-clause-returned : goal.returns-in-None-clause-returned
returns-in-None-clause-returned g c =
    let self = c.self.inside in
    (refl, subst (λ jobs. job_of jobs c.args.id ≡ None) c.self.view_is (has_none self.ids.items self.places.items self.count self.ids.next c.self.invariant.0 c.args.id c.in-None.ensures.none))

pub returns-in-None-clause-jobs : goal.returns-in-None-clause-jobs
returns-in-None-clause-jobs g c k =
    let self = c.self.inside in
    subst (λ jobs. job_of jobs k ≡ jobs_with c.args.id (λ _. c.args.other) k (job_of jobs k)) c.self.view_is
    (stays self.ids.items self.places.items self.count self.ids.next c.self.invariant.0 c.args.id c.in-None.ensures.none (option_map (λ _. c.args.other)) refl k)
