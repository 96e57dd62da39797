use Rattle.std.proofs.Common.{◌≡◌, ap, ap₂, sym, ◌∙◌, arith, ◌<◌, length, take}
use Rattle.croner_scheduler.proofs.TakenOut.{one_on, all_moved, all_full, row_of}
use Rattle.croner_scheduler.specs.Private.Places.{entries_in}
use Rattle.croner_scheduler.proofs.jobs.take_out_empty.Goals as goal

pub loop-place-preserved : goal.loop-place-preserved
loop-place-preserved g c =
    let ids = c.args.ids.now.items in
    let places = c.args.places.now.items in
    let l = c.loop-place in
    let lt : l.place < length l.places.items = omega (arith, c.loop-place-test.true, c.len-place-end.ensures, c.args.places.now.ok.0, l.invariant.many) in
    one_on ids places l.kept l.place l.ids.items l.places.items l.invariant lt c.put_in_front-kept.new.ids.items c.put_in_front-kept.new.places.items c.put_in_front-kept.result c.put_in_front-kept.ensures

pub returns-clause-row : goal.returns-clause-row
returns-clause-row g c =
    let ids = c.args.ids.now.items in
    let places = c.args.places.now.items in
    let l = c.loop-place in
    let end : l.place ≡ length l.places.items = omega (arith, c.loop-place-test.false, l.auto.place-end, c.len-place-end.ensures, c.args.places.now.ok.0, l.invariant.many) in
    row_of ids places (take l.kept l.ids.items) (take l.kept l.places.items) (all_moved ids places l.kept l.place l.ids.items l.places.items l.invariant end)
    c.truncate.new.self.items c.truncate-2.new.self.items c.truncate.ensures.items c.truncate-2.ensures.items

pub returns-clause-full : goal.returns-clause-full
returns-clause-full g c =
    let l = c.loop-place in
    let end : l.place ≡ length l.places.items = omega (arith, c.loop-place-test.false, l.auto.place-end, c.len-place-end.ensures, c.args.places.now.ok.0, l.invariant.many) in
    ap length c.truncate-2.ensures.items
    ∙ all_full c.args.ids.now.items c.args.places.now.items l.kept l.place l.ids.items l.places.items l.invariant end
    ∙ sym (ap₂ (λ ids places. length (entries_in ids places)) c.truncate.ensures.items c.truncate-2.ensures.items)
