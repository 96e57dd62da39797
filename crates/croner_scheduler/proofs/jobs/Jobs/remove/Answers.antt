use Rattle.std.proofs.Common.{rules, ◌≡◌, refl, sym, ap, ◌∙◌, ap₂, subst, arith, ◌+◌, ◌-◌, Bool, cond, false, true, None, is_some, length, set, if◌then◌else◌, nat_cmp}
use mir.Val.{bool_byte}
use Rattle.std.specs.BTreeMap.{is_at}
use Rattle.croner_scheduler.proofs.Places.{has_none, is_job, stays, changes, taken, fewer_places}
use Rattle.croner_scheduler.specs.Ids.{job_of}
use Rattle.croner_scheduler.specs.Private.Places.{entries_in, ArePlaces}
use Rattle.croner_scheduler.proofs.StopCounts.{counted_set}
use Rattle.croner_scheduler.specs.Stops.{stops_in}
use Rattle.croner_scheduler.proofs.jobs.Jobs.remove.Goals as goal

pub returns-in_err-place-clause-removed : goal.returns-in_err-place-clause-removed
returns-in_err-place-clause-removed g c =
    let self = c.self.inside in
    let none : c.from_residual.result ≡ None = search rules in
    none ∙ sym (has_none self.ids.items self.places.items self.count self.ids.next c.self.invariant.0 c.args.id c.in_err-place.ensures.none) ∙ ap (λ jobs. job_of jobs c.args.id) c.self.view_is

pub returns-in_err-place-clause-jobs : goal.returns-in_err-place-clause-jobs
returns-in_err-place-clause-jobs g c k =
    let self = c.self.inside in
    subst (λ jobs. job_of jobs k ≡ cond (is_at (nat_cmp c.args.id) k) None (job_of jobs k)) c.self.view_is
    (stays self.ids.items self.places.items self.count self.ids.next c.self.invariant.0 c.args.id c.in_err-place.ensures.none (λ _. None) refl k)

pub returns-clause-removed : goal.returns-clause-removed
returns-clause-removed g c =
    let self = c.self.inside in
    c.take-waiting.ensures.value
    ∙ is_job self.ids.items self.places.items self.count self.ids.next c.self.invariant.0 c.in_ok-place.place c.args.id
    c.in_ok-place.ensures.found c.index_mut.result.now c.index_mut.ensures.value
    ∙ ap (λ jobs. job_of jobs c.args.id) c.self.view_is

pub returns-clause-jobs : goal.returns-clause-jobs
returns-clause-jobs g c k =
    let self = c.self.inside in
    changes self.ids.items self.places.items self.count self.ids.next c.self.invariant.0 c.in_ok-place.place c.args.id
    c.in_ok-place.ensures.found c.index_mut.result.now c.index_mut.ensures.value
    (λ _. None) c.take-waiting.new.self c.take-waiting.ensures.after k
    ∙ ap (λ jobs. cond (is_at (nat_cmp c.args.id) k) None (job_of jobs k)) c.self.view_is

pub returns-clause-count : goal.returns-clause-count
returns-clause-count g c =
    let self = c.self.inside in
    ap₂ (λ p r. length (entries_in self.ids.items (set self.places.items c.in_ok-place.place p)) + (if is_some r then 1 else 0)) c.take-waiting.ensures.after c.take-waiting.ensures.value
    ∙ taken self.ids.items self.places.items self.count self.ids.next c.self.invariant.0 c.in_ok-place.place c.args.id
    c.in_ok-place.ensures.found c.index_mut.result.now c.index_mut.ensures.value
    ∙ ap (λ jobs. length jobs.entries) c.self.view_is

one_byte : (b : Bool) → bool_byte b ≡ (if b then 1 else 0)
one_byte true = refl
one_byte false = refl

pub overflow_sub-self-2 : goal.overflow_sub-self-2
overflow_sub-self-2 g c =
    let self = c.self.inside in
    let left = taken self.ids.items self.places.items self.count self.ids.next c.self.invariant.0 c.in_ok-place.place c.args.id
    c.in_ok-place.ensures.found c.index_mut.result.now c.index_mut.ensures.value in
    let one = c.from.ensures ∙ ap bool_byte (c.is_some.ensures ∙ ap is_some c.take-waiting.ensures.value) ∙ one_byte (is_some c.index_mut.result.now) in
    omega (arith, left, one, c.self.invariant.0.counted)

pub overflow_sub-self : goal.overflow_sub-self
overflow_sub-self g c =
    let self = c.self.inside in
    let many = counted_set self.ids.items self.places.items self.count self.ids.next c.self.invariant.0 self.stopped c.self.invariant.1 c.in_ok-place.place c.args.id
    c.in_ok-place.ensures.found c.index.result.now c.index.ensures None in
    omega (arith, many, c.stop_len.ensures)

pub invariant_of-self : goal.invariant_of-self
invariant_of-self g c =
    let self = c.self.inside in
    let left = taken self.ids.items self.places.items self.count self.ids.next c.self.invariant.0 c.in_ok-place.place c.args.id
    c.in_ok-place.ensures.found c.index_mut.result.now c.index_mut.ensures.value in
    let one = c.from.ensures ∙ ap bool_byte (c.is_some.ensures ∙ ap is_some c.take-waiting.ensures.value) ∙ one_byte (is_some c.index_mut.result.now) in
    let many = counted_set self.ids.items self.places.items self.count self.ids.next c.self.invariant.0 self.stopped c.self.invariant.1 c.in_ok-place.place c.args.id
    c.in_ok-place.ensures.found c.index.result.now c.index.ensures None in
    subst (λ p. ArePlaces self.ids.items (set self.places.items c.in_ok-place.place p) (self.count - c.from.result) self.ids.next
    × (self.stopped - c.stop_len.result ≡ length (stops_in (entries_in self.ids.items (set self.places.items c.in_ok-place.place p))))) (sym c.take-waiting.ensures.after) (
      fewer_places self.ids.items self.places.items self.count self.ids.next c.self.invariant.0 c.in_ok-place.place c.args.id
          c.in_ok-place.ensures.found c.index_mut.result.now c.index_mut.ensures.value
          (self.count - c.from.result) (omega (arith, left, one, c.self.invariant.0.counted)),
      omega (arith, many, c.stop_len.ensures),
    )
