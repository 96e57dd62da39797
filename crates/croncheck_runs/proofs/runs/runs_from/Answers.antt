use Rattle.std.proofs.Common.{◌≡◌, ◌∙◌, map, ap, ℤ, w64, FitsSigned, to_z, of_z, subst, rules}
use Rattle.std.proofs.lemmas.Int.{to_z-of_z}
use Rattle.croner_base.specs.TableZone.{table_moment}
use Rattle.croner.specs.iterator.Listing.{standing_of}
use Rattle.croncheck_runs.specs.Private.Ends.{bound}
use Rattle.croncheck_runs.specs.Private.Listed.{once}
use Rattle.croncheck_runs.proofs.Listings.{listed_by}
use Rattle.croncheck_runs.proofs.runs.runs_from.Goals as goal

pub returns-clause-listed : goal.returns-clause-listed
returns-clause-listed c = λ m begins.
    let start = c.args.start in
    let until = c.bound_of-until.result in
    let fits : FitsSigned w64 c.second.result = search rules in
    let second : to_z w64 (of_z w64 c.second.result) ≡ start.second = to_z-of_z w64 c.second.result fits ∙ c.second.ensures.value in
    let up_to = subst (λ (s : ℤ). until ≡ bound s c.args.last c.args.listing) second c.bound_of-until.ensures in
    listed_by m start (standing_of table_moment c.args.iterator.now) (standing_of table_moment c.next_runs_until.new.iterator) until
    c.limit_of-most.result c.args.last c.args.listing c.in_ok-times.times.items (record { items = c.in_ok-items.items; end = c.in_ok-end.end }) _
    c.in_ok-times.ending begins up_to c.limit_of-most.ensures (c.in_ok-items.ensures ∙ ap (map once) c.as_slice.ensures.value) c.in_ok-times.ensures.lists c.in_ok-end.ensures.ends
