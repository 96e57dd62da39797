-- What a call of `next` of an iterator over a table does, from the search that it makes.
use Rattle.std.proofs.Common.{◌≡◌, List, ℕ, sym, subst, ap, ◌∙◌}
use Rattle.croner_base.specs.Zone.{Moment}
use Rattle.croner.specs.crontable.Tables.{IsTableFound}
use Rattle.croner.specs.crontable.TableListing.{TableStanding, table_standing_of, counts_table_position, table_moved, GivesTableItem}
use Rattle.croner.specs.declared.crontable.iterator.CronTableIterator.{CronTableIterator}
use Rattle.croner.specs.Private.crontable.Kept.{LeadsTo}
use Rattle.croner.proofs.crontable.KeptRuns.{table_leads}

module _ {T : Type 0} {d : _} {c : _} (moment : T → Moment) (old mid : CronTableIterator T d c) (same : table_standing_of moment mid ≡ table_standing_of moment old) where
  abbrev stood : TableStanding
  stood = table_standing_of moment old

  abbrev Found : Moment → List ℕ → Type 0
  Found = IsTableFound stood.direction (counts_table_position stood) stood.patterns stood.position

  -- the search moved nothing, and found what it leads to
  pub leads_from : (run : T) (places : List ℕ) → Found (moment run) places → LeadsTo mid.direction (moment mid.position) (moment run)
  leads_from run places found =
      let P : TableStanding → Type 0 = λ s. LeadsTo s.direction s.position (moment run) in
      subst P (sym same) (table_leads stood.direction (counts_table_position stood) stood.patterns stood.position (moment run) places found)

  -- the iterator stands at the run, and gave a copy of it
  pub gives_item : (new : CronTableIterator T d c) (run item : T) (places : List ℕ) → Found (moment run) places → moment item ≡ moment run
      → table_standing_of moment new ≡ table_moved (table_standing_of moment mid) (moment run) → GivesTableItem stood (moment item) places (table_standing_of moment new)
  gives_item new run item places found copied moved =
      let P : Moment → Type 0 = λ m. GivesTableItem stood m places (table_standing_of moment new) in
      subst P (sym copied) (record { stands = moved ∙ ap (λ s. table_moved s (moment run)) same; found = found })
