use Rattle.std.proofs.Common.{◌≡◌, ◌⊎◌, ℕ, length, subst, arith}
use Rattle.croner.specs.iterator.Listing.{standing_of, instants, TakesInTurn}
use Rattle.croner.proofs.iterator.ItemsGiven.{IsOver, goes_by_call, over_by_call, called_again, wholes_by_call, counted_by_call, fault_by_call, begins_rest, gave, gave_all, counted_all}
use Rattle.croner.proofs.laws.listing.next_runs.Goals as goal

pub loop-call-preserved : goal.loop-call-preserved
loop-call-preserved g c =
    let moment = g.T.CronDateTime.moment in
    let lack = g.T.CronDateTime.can_lack_memory in
    let old = standing_of moment c.args.iterator.now in
    let cur = c.loop-call.iterator' in
    let new = c.take_next-is_over.new.iterator in
    let before = c.loop-call.runs.items in
    let after = c.take_next-is_over.new.runs.items in
    let takes = c.take_next-is_over.ensures.takes in
    let held = c.loop-call.invariant in
    record {
      goes = goes_by_call moment lack old cur new before after c.take_next-is_over.result held.goes takes;
      over = over_by_call moment lack old cur new before after c.take_next-is_over.result held.goes takes;
      called = called_again moment lack old cur new before after c.args.iterator.now c.loop-call._call c.loop-call.is_over c.take_next-is_over.result held.called takes;
      wholes = wholes_by_call moment lack old cur new before after c.take_next-is_over.result held.goes takes held.wholes;
      counted = λ memory p. counted_by_call moment lack old cur new before after c.take_next-is_over.result c.loop-call._call held.goes takes memory (held.counted memory) p;
      fault = λ p some. fault_by_call moment lack old cur new before after c.take_next-is_over.result held.goes takes p;
      most = omega (arith, c.take_next-is_over.ensures.longer, held.most);
      room = omega (arith, c.take_next-is_over.ensures.room, held.room);
    }

pub returns-clause-listing : goal.returns-clause-listing
returns-clause-listing g c p =
    let moment = g.T.CronDateTime.moment in
    begins_rest (standing_of moment c.args.iterator.now) (standing_of moment c.loop-call.iterator') (instants moment c.loop-call.runs.items) c.loop-call.invariant.goes p

pub returns-clause-rest : goal.returns-clause-rest
returns-clause-rest g c p =
    let moment = g.T.CronDateTime.moment in
    gave (standing_of moment c.args.iterator.now) (standing_of moment c.loop-call.iterator') (instants moment c.loop-call.runs.items) c.loop-call.invariant.goes p

pub returns-clause-all : goal.returns-clause-all
returns-clause-all g c p over =
    let moment = g.T.CronDateTime.moment in
    gave_all (standing_of moment c.args.iterator.now) (standing_of moment c.loop-call.iterator') (instants moment c.loop-call.runs.items) c.loop-call.invariant.goes
    (c.loop-call.invariant.over over) p

pub returns-clause-counted : goal.returns-clause-counted
returns-clause-counted g c p memory =
    let moment = g.T.CronDateTime.moment in
    let cur = standing_of moment c.loop-call.iterator' in
    let old = standing_of moment c.args.iterator.now in
    let each : c.loop-call._call ≡ c.args.calls = omega arith in
    let counted = subst (λ (n : ℕ). (length c.loop-call.runs.items ≡ n) ⊎ IsOver old cur) each (c.loop-call.invariant.counted memory p) in
    counted_all old cur (instants moment c.loop-call.runs.items) (length c.loop-call.runs.items) c.args.calls c.loop-call.invariant.goes counted p

pub returns-clause-called : goal.returns-clause-called
returns-clause-called g c =
    let moment = g.T.CronDateTime.moment in
    let lack = g.T.CronDateTime.can_lack_memory in
    let each : c.loop-call._call ≡ c.args.calls = omega arith in
    subst (λ (n : ℕ). TakesInTurn moment lack n c.args.iterator.now c.loop-call.iterator' c.loop-call.runs.items c.loop-call.is_over) each c.loop-call.invariant.called

pub returns-clause-whole : goal.returns-clause-whole
returns-clause-whole g c = c.loop-call.invariant.wholes

pub returns-clause-searchable : goal.returns-clause-searchable
returns-clause-searchable g c p = c.loop-call.invariant.goes.searchable p

pub returns-clause-fault : goal.returns-clause-fault
returns-clause-fault g c p some = c.loop-call.invariant.fault p (omega arith)
