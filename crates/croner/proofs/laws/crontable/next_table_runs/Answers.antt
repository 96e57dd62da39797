use Rattle.std.proofs.Common.{◌≡◌, ℕ, subst, arith}
use Rattle.croner.specs.crontable.TableListing.{table_standing_of}
use Rattle.croner.specs.crontable.TableItems.{table_items, TakesTableInTurn}
use Rattle.croner.proofs.crontable.TableItems.{goes_by_call, over_by_call, called_again, fault_by_call, begins_table_rest, gave_table, gave_all_table}
use Rattle.croner.proofs.laws.crontable.next_table_runs.Goals as goal

pub loop-call-preserved : goal.loop-call-preserved
loop-call-preserved g c =
    let moment = g.T.CronDateTime.moment in
    let old = table_standing_of moment c.args.iterator.now in
    let cur = c.loop-call.iterator' in
    let new = c.take_next-is_over.new.iterator in
    let before = c.loop-call.runs.items in
    let after = c.take_next-is_over.new.runs.items in
    let takes = c.take_next-is_over.ensures.takes in
    let held = c.loop-call.invariant in
    record {
      goes = goes_by_call moment old cur new before after c.take_next-is_over.result held.goes takes;
      over = over_by_call moment old cur new before after c.take_next-is_over.result held.goes takes;
      called = called_again moment old cur new before after c.args.iterator.now c.loop-call._call c.loop-call.is_over c.take_next-is_over.result held.called takes;
      fault = λ p some. fault_by_call moment old cur new before after c.take_next-is_over.result held.goes takes p;
      most = omega (arith, c.take_next-is_over.ensures.longer, held.most);
      room = omega (arith, c.take_next-is_over.ensures.room, held.room);
    }

pub returns-clause-listing : goal.returns-clause-listing
returns-clause-listing g c p =
    let moment = g.T.CronDateTime.moment in
    begins_table_rest (table_standing_of moment c.args.iterator.now) (table_standing_of moment c.loop-call.iterator') (table_items moment c.loop-call.runs.items) c.loop-call.invariant.goes p

pub returns-clause-rest : goal.returns-clause-rest
returns-clause-rest g c p =
    let moment = g.T.CronDateTime.moment in
    gave_table (table_standing_of moment c.args.iterator.now) (table_standing_of moment c.loop-call.iterator') (table_items moment c.loop-call.runs.items) c.loop-call.invariant.goes p

pub returns-clause-all : goal.returns-clause-all
returns-clause-all g c p over =
    let moment = g.T.CronDateTime.moment in
    gave_all_table (table_standing_of moment c.args.iterator.now) (table_standing_of moment c.loop-call.iterator') (table_items moment c.loop-call.runs.items) c.loop-call.invariant.goes
    (c.loop-call.invariant.over over) p

pub returns-clause-searchable : goal.returns-clause-searchable
returns-clause-searchable g c p = c.loop-call.invariant.goes.searchable p

pub returns-clause-fault : goal.returns-clause-fault
returns-clause-fault g c p some = c.loop-call.invariant.fault p (omega arith)

pub returns-clause-called : goal.returns-clause-called
returns-clause-called g c =
    let moment = g.T.CronDateTime.moment in
    let each : c.loop-call._call ≡ c.args.calls = omega arith in
    subst (λ (n : ℕ). TakesTableInTurn moment n c.args.iterator.now c.loop-call.iterator' c.loop-call.runs.items c.loop-call.is_over) each c.loop-call.invariant.called
