-- A listing up to a second, and what is counted of it.
use Rattle.std.proofs.Common.{◌≡◌, ◌≤◌, ◌^◌, ℤ, Option, Some, length, subst, sym, arith}
use Rattle.std.proofs.lemmas.List.{length-map}
use Rattle.croner_base.specs.TableZone.{table_moment}
use Rattle.croncheck_often.specs.declared.often.Often.{Often}
use Rattle.croncheck_runs.specs.declared.runs.Listing.TheVariants as listings
use Rattle.croncheck_runs.specs.declared.runs.Run.{Run}
use Rattle.croncheck_runs.specs.declared.runs.Runs.{Runs}
use Rattle.croncheck_often.specs.Often.{Counts, IsOften, AreOften}
use Rattle.croncheck_runs.specs.Runs.{Listed, IsListed}

-- its runs are few
pub few_listed : (what : Listed) (last : Option ℤ) (until : ℤ) (r : Runs) → IsListed what last (listings.Until until) r → length r.items.items ≤ 2 ^ 31
few_listed what last until r h = omega (arith, h.asked.1, length-map r.items.items (λ (run : Run). (table_moment run.time).instant))

-- what is counted of it is how often the job starts
pub often_told : (what : Listed) (last : Option ℤ) (until from passed : ℤ) (r : Runs) (o : Often) → IsListed what last (listings.Until passed) r
    → from ≡ what.rest.start.instant → passed ≡ until → Counts last from passed r o → IsOften what last until o
often_told what last until from passed r o listed from_is until_is counts =
    subst (λ (second : ℤ). IsOften what last second o) until_is (record {
      runs = r;
      listed = listed;
      counts = subst (λ (second : ℤ). Counts last second passed r o) from_is counts;
    })

-- and so it is where it is asked for
pub often_asked : (what : Listed) (last until : Option ℤ) (second passed : ℤ) (o : Often) → until ≡ Some second → passed ≡ second
    → IsOften what last passed o → AreOften what last until (Some o)
often_asked what last until second passed o until_is passed_is told =
    subst (λ (asked : Option ℤ). AreOften what last asked (Some o)) (sym until_is) (subst (λ (at : ℤ). IsOften what last at o) passed_is told)
