use Rattle.std.proofs.Common.{◌∙◌, Some, map, ap, w64, FitsSigned, refl, rules}
use Rattle.std.proofs.lemmas.Int.{to_z-of_z}
use Rattle.croner_base.specs.TableZone.{table_moment}
use Rattle.croner.specs.iterator.Listing.{standing_of}
use Rattle.croncheck_runs.specs.Private.Listed.{once}
use Rattle.croncheck_runs.proofs.PreviousRuns.{listed_back}
use Rattle.croncheck_runs.proofs.previous.runs_back.Goals as goal

pub returns-clause-listed : goal.returns-clause-listed
returns-clause-listed c = λ m begins.
    let asked = c.args.asked in
    let fits : FitsSigned w64 asked.from = search rules in
    listed_back m asked (standing_of table_moment c.args.iterator.now) (standing_of table_moment c.next_runs_until.new.iterator) _ _ c.in_ok-times.times.items
    (record { items = c.in_ok-items.items; end = c.in_ok-end.end }) _ c.in_ok-times.ending begins (ap Some (to_z-of_z w64 asked.from fits)) refl
    (c.in_ok-items.ensures ∙ ap (map once) c.as_slice.ensures.value) c.in_ok-times.ensures.lists c.in_ok-end.ensures.ends
