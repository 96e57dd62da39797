use Rattle.std.proofs.Common.{rules, subst, ℤ, IsTrue, ◌↔◌, SFits, w64}
use Rattle.std.proofs.lemmas.Int.{to_z-of_z}
use Rattle.croner_jobs.specs.Served.{IsIn}
use Rattle.croner_jobs.proofs.window.lies_in.Goals as goal

pub returns : goal.returns
returns g c =
    let second : SFits w64 c.second.result = search rules in
    let first : SFits w64 c.args.first = c.ranges.first in
    let last : SFits w64 c.args.last = c.ranges.last in
    let P : ℤ → Type 0 = λ i. IsTrue c.is_in.result ↔ IsIn c.args.first c.args.last i in
    subst P c.second.ensures (simp to_z-of_z at c.is_in.ensures)
