use Rattle.std.proofs.Common.{◌≡◌, sym, ap, ap₂, ◌∙◌, subst, arith, cond, length, nat_cmp, None, Some, ◌+◌, ◌++◌, ◌∷◌, []}
use Rattle.croner_scheduler.proofs.Places.{no_job, none_from}
use Rattle.croner_scheduler.proofs.TakenOut.{in_row, few, entries_with, job_with, one_more, with_one, places_of}
use Rattle.std.specs.BTreeMap.{is_at}
use Rattle.std.specs.Map.{lookup}
use Rattle.croner_scheduler.specs.Ids.{job_of}
use Rattle.croner_scheduler.specs.Private.Places.{entries_in, ArePlaces}
use Rattle.croner_scheduler.proofs.StopCounts.{stops_behind, stopped_few, one_stop}
use Rattle.croner_scheduler.specs.Stops.{stops_in}
use Rattle.croner_scheduler.proofs.jobs.Jobs.add.Goals as goal

pub invariant_of-self : goal.invariant_of-self
invariant_of-self g c =
    let self = c.self.inside in (
      subst (ArePlaces c.make_room.new.ids.items c.make_room.new.places.items self.count) (sym c.make_room.ensures.next_id)
          (in_row self.ids.items self.places.items c.make_room.new.ids.items c.make_room.new.places.items c.make_room.ensures.kept self.count self.ids.next c.self.invariant.0),
      c.self.invariant.1 ∙ ap (λ es. length (stops_in es)) (sym c.make_room.ensures.kept.entries),
    )

pub overflow_add-self : goal.overflow_add-self
overflow_add-self g c =
    let self = c.self.inside in
    let few = stopped_few self.ids.items self.places.items self.count self.ids.next c.self.invariant.0 self.stopped c.self.invariant.1 in
    let one = one_stop (Some c.args.waiting) in
    omega (arith, few, one, c.stop_len.ensures, self.places.ok.0, self.places.ok.1, self.places.small)

pub overflow_add-self-2 : goal.overflow_add-self-2
overflow_add-self-2 g c =
    let self = c.self.inside in
    let le = few self.ids.items self.places.items c.make_room.new.ids.items c.make_room.new.places.items c.make_room.ensures.kept self.count self.ids.next c.self.invariant.0 in
    omega (arith, le, c.make_room.ensures.kept.beside, c.make_room.new.places.ok.0, c.make_room.new.places.ok.1, c.make_room.new.places.small)

pub invariant_of-self-2 : goal.invariant_of-self-2
invariant_of-self-2 g c =
    let self = c.self.inside in
    let with = ap₂ entries_in (c.push-id.ensures.items ∙ ap (λ n. c.make_room.new.ids.items ++ n ∷ []) c.make_room.ensures.next_id) c.push_reserved.ensures.items
    ∙ entries_with self.ids.items self.places.items c.make_room.new.ids.items c.make_room.new.places.items c.make_room.ensures.kept self.count self.ids.next c.self.invariant.0 c.args.waiting in
    let many = ap (λ es. length (stops_in es)) with ∙ stops_behind (entries_in self.ids.items self.places.items) self.ids.next c.args.waiting in (
      subst (ArePlaces c.push-id.new.self.items c.push_reserved.new.self.items (self.count + 1)) (sym (c.push-id.ensures.next ∙ ap (λ n. n + 1) c.make_room.ensures.next_id))
          (places_of (self.count + 1) (self.ids.next + 1) (c.push-id.ensures.items ∙ ap (λ n. c.make_room.new.ids.items ++ n ∷ []) c.make_room.ensures.next_id) c.push_reserved.ensures.items
          (with_one self.ids.items self.places.items c.make_room.new.ids.items c.make_room.new.places.items c.make_room.ensures.kept self.count self.ids.next c.self.invariant.0 c.args.waiting)),
      omega (arith, many, c.self.invariant.1, c.stop_len.ensures),
    )

pub returns-clause-unused : goal.returns-clause-unused
returns-clause-unused g c =
    let self = c.self.inside in
    subst (λ jobs. job_of jobs jobs.next_id ≡ None) c.self.view_is
    (no_job self.ids.next self.ids.items self.places.items (none_from self.ids.items self.ids.next self.ids.next c.self.invariant.0.below (omega arith)))

pub returns-clause-jobs : goal.returns-clause-jobs
returns-clause-jobs g c k =
    let self = c.self.inside in
    ap (lookup (is_at (nat_cmp k))) (ap₂ entries_in (c.push-id.ensures.items ∙ ap (λ n. c.make_room.new.ids.items ++ n ∷ []) c.make_room.ensures.next_id) c.push_reserved.ensures.items)
    ∙ job_with self.ids.items self.places.items c.make_room.new.ids.items c.make_room.new.places.items c.make_room.ensures.kept self.count self.ids.next c.self.invariant.0 c.args.waiting k
    ∙ ap (λ jobs. cond (is_at (nat_cmp jobs.next_id) k) (Some c.args.waiting) (job_of jobs k)) c.self.view_is

pub returns-clause-count : goal.returns-clause-count
returns-clause-count g c =
    let self = c.self.inside in
    ap length (ap₂ entries_in (c.push-id.ensures.items ∙ ap (λ n. c.make_room.new.ids.items ++ n ∷ []) c.make_room.ensures.next_id) c.push_reserved.ensures.items)
    ∙ one_more self.ids.items self.places.items c.make_room.new.ids.items c.make_room.new.places.items c.make_room.ensures.kept self.count self.ids.next c.self.invariant.0 c.args.waiting
    ∙ ap (λ jobs. length jobs.entries + 1) c.self.view_is
