use Rattle.std.proofs.Common.{◌≡◌, ◌∙◌, ◌+◌, ℕ, ap, arith}
use Rattle.croner_base.specs.TableZone.{table_moment}
use Rattle.croner.specs.crontable.TableListing.{table_standing_of}
use Rattle.croner.proofs.iterator.Until.{starts_calm}
use Rattle.croner.proofs.crontable.TableUntil.{one_more, one_longer, ends_listing, lists_full}
use Rattle.croner.proofs.laws.crontable.next_table_runs_until.Goals as goal

pub loop-call-preserved : goal.loop-call-preserved
loop-call-preserved c =
    let old = table_standing_of table_moment c.args.iterator.now in
    let cur = table_standing_of table_moment c.loop-call.iterator' in
    let new = table_standing_of table_moment c.take_next_until.new.iterator in
    let before = c.loop-call.runs.items in
    let after = c.take_next_until.new.runs.items in
    let held = c.loop-call.invariant in
    record {
      gives = one_more old cur new c.args.until before after held.gives c.in_default-take_next_until.ensures.takes;
      each = one_longer old cur new c.args.until before after held.gives c.in_default-take_next_until.ensures.takes ∙ ap (λ (n : ℕ). n + 1) held.each;
      room = omega (arith, c.in_default-take_next_until.ensures.room, held.room);
    }

pub returns-in-Some-clause-lists : goal.returns-in-Some-clause-lists
returns-in-Some-clause-lists c =
    let old = table_standing_of table_moment c.args.iterator.now in
    let cur = table_standing_of table_moment c.loop-call.iterator' in
    let new = table_standing_of table_moment c.take_next_until.new.iterator in
    let held = c.loop-call.invariant in
    ends_listing old cur new c.args.until c.loop-call.runs.items c.take_next_until.new.runs.items held.gives c.args.most c.in-Some.end
    (starts_calm c.args.iterator.now.position) (omega (arith, held.each)) c.in-Some.ensures.takes

pub returns-clause-lists : goal.returns-clause-lists
returns-clause-lists c =
    let each : c.loop-call._call ≡ c.args.most = omega arith in
    lists_full (table_standing_of table_moment c.args.iterator.now) (table_standing_of table_moment c.loop-call.iterator') c.args.until c.args.most c.loop-call.runs.items
    (starts_calm c.args.iterator.now.position) c.loop-call.invariant.gives (c.loop-call.invariant.each ∙ each)
