use Rattle.std.proofs.Common.{ap, sym, ◌∙◌, w64}
use Rattle.std.proofs.lemmas.Int.{to_z-of_z}
use Rattle.croner_rows.proofs.Ends.{not_searchable}
use Rattle.croner_rows.proofs.flaky.lacks_near.Goals as goal

-- src/flaky.rt:102:1
pub returns : goal.returns
returns g c =
    let m = g.T.CronDateTime.moment c.args.time.now in
    not_searchable c.lacks.result m c.args.second c.requires (λ is. ap m.zone.holds (sym (to_z-of_z w64 c.args.second c.ranges.second)) ∙ c.lacks.ensures is)
