use Rattle.std.proofs.Common.{arith, length, sym}
use Rattle.std.proofs.lemmas.List.{length-take-le}
use Rattle.croner_base.specs.Private.words.Rows.{width}
use Rattle.croner_base.proofs.words.PlainRow.{row_is_there}
use Rattle.croner_base.proofs.component.marks.rows.plain_row.Goals as goal

pub slice_bounds-result-end-else-supported-eq0 : goal.slice_bounds-result-end-else-supported-eq0
slice_bounds-result-end-else-supported-eq0 c =
    let there = row_is_there c.args.supported (width c.args.max) (length c.args.words.now) c.if-supported-eq0.false c.requires in
    sym (length-take-le c.width.result c.args.words.now (omega arith))
