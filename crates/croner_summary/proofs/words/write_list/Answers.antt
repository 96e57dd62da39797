use Rattle.std.proofs.Common.{arith}
use Rattle.croner_summary.proofs.Lists.{whole_written, cut_written}
use Rattle.croner_summary.proofs.words.write_list.Goals as goal

pub returns-then-pieces-most : goal.returns-then-pieces-most
returns-then-pieces-most c =
    whole_written c.args.style c.args.kind c.args.pieces.now c.args.text.now c.write_items.new.text c.write_items.result (omega arith) c.write_items.ensures

pub returns : goal.returns
returns c =
    let e = c.from-most.ensures in
    cut_written c.args.style c.args.kind c.args.pieces.now c.args.text.now c.write_items-2.new.text c.write_left.new.text c.write_left.result (omega arith) (rw e at c.in_ok-write_items.ensures) (rw e at c.write_left.ensures)
