use Rattle.std.proofs.Common.{◌≡◌, ◌∙◌, ◌-◌, ℤ, Some, inr, map, length, sym, subst, rules, w64, FitsSigned, to_z, of_z}
use Rattle.std.specs.Prelude.{slice_get}
use Rattle.std.proofs.lemmas.Int.{to_z-of_z}
use Rattle.croner_base.specs.declared.time.table.TableTime.{TableTime}
use Rattle.croner.specs.declared.laws.listing.ListingEnd.{ListingEnd}
use Rattle.cronplan_jobs.specs.Private.Placed.{IsPatternEnd}
use Rattle.cronplan_jobs.proofs.JobListings.{at_place}
use Rattle.cronplan_jobs.proofs.listing.pattern_end.Goals as goal

pub returns-in-Full-Some : goal.returns-in-Full-Some
returns-in-Full-Some c =
    let last : TableTime = c.in-Full-Some.last.now in
    let fits : FitsSigned w64 c.second.result = search rules in
    let at : slice_get (map (λ (t : TableTime). t.second) c.args.times.now) (length c.args.times.now - 1) ≡ Some last.second =
    at_place (λ (t : TableTime). t.second) c.args.times.now (length c.args.times.now - 1) last (sym c.in-Full-Some.ensures.value) in
    subst (λ (e : ListingEnd). IsPatternEnd c.args.times.now e c.args.span (to_z w64 (of_z w64 c.second.result))) (sym c.in-Full-Some.is-0)
    (inr (subst (λ (i : ℤ). slice_get (map (λ (t : TableTime). t.second) c.args.times.now) (length c.args.times.now - 1) ≡ Some i) (sym (to_z-of_z w64 c.second.result fits ∙ c.second.ensures.value)) at))
