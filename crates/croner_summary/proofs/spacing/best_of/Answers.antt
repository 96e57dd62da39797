use Rattle.std.proofs.Common.{◌≡◌, ◌-◌, false, sym, subst, arith, rules}
use Rattle.croner_summary.specs.Private.Spacing.{IsBestPiece, LieEvenly}
use Rattle.croner_summary.proofs.OnePiece.{even_where_named, fits_field, names_them, shortest}
use Rattle.croner_summary.proofs.spacing.best_of.Goals as goal

pub returns-then-not-lie_evenly : goal.returns-then-not-lie_evenly
returns-then-not-lie_evenly c piece names =
    let other : c.lie_evenly.result ≡ false = search rules in
    c.lie_evenly.ensures.no other (even_where_named c.args.least c.args.greatest c.args.field.now c.args.first c.args.second c.args.last c.requires.ends piece names)

pub returns : goal.returns
returns c =
    let even : LieEvenly c.args.field.now c.args.first c.args.last (c.args.second - c.args.first) = c.lie_evenly.ensures.yes (search rules) in
    subst (λ p. IsBestPiece c.args.least c.args.greatest c.args.field.now p) (sym c.stepped_piece.ensures)
    (record {
      within = fits_field c.args.least c.args.greatest c.args.field.now c.args.first c.args.second c.args.last (c.args.second - c.args.first) c.requires.ends (omega (arith, c.requires.ends.order)) even;
      exact = names_them c.args.least c.args.greatest c.args.field.now c.args.first c.args.second c.args.last (c.args.second - c.args.first) c.requires.ends even;
      shortest = shortest c.args.least c.args.greatest c.args.field.now c.args.first c.args.second c.args.last c.requires.ends;
    })
