use Rattle.std.proofs.Common.{arith}
use Rattle.croner_base.specs.Private.words.Rows.{width}
use Rattle.croner_base.proofs.words.RowPlaces.{place_within, place_fits, width_small}
use Rattle.croner_base.proofs.component.marks.rows.place.Goals as goal

pub returns-clause-there : goal.returns-clause-there
returns-clause-there c = rw (c.from.ensures, c.rows_below.ensures, c.width.ensures)
    (λ one. place_within c.args.supported c.args.k (width c.args.max) c.args.i one c.requires.modifier c.requires.within)

pub returns-clause-small : goal.returns-clause-small
returns-clause-small c =
    let few = width_small c.args.max c.ranges.max.fits in
    rw (c.from.ensures, c.rows_below.ensures, c.width.ensures)
    (place_fits c.args.supported c.args.k (width c.args.max) c.args.i c.requires.modifier few (omega (arith, few)))
