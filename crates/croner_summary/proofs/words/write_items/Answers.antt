use Rattle.std.proofs.Common.{string_bytes}
use Rattle.croner_summary.proofs.Lists.{one_more}
use Rattle.croner_summary.proofs.words.write_items.Goals as goal

pub loop-place-preserved : goal.loop-place-preserved
loop-place-preserved c rest h =
    rw c.in_ok-write_item.ensures
    (one_more c.args.language c.args.kind c.args.pieces.now c.args.count c.loop-place.place _ (string_bytes c.args.text.now) (string_bytes c.loop-place.text) c.loop-place-test.true c.loop-place.invariant rest h)
