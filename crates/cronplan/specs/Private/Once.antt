-- The starts that were found, by what they are like in.
use Rattle.std.specs.Prelude.{◌≡◌, ◌==◌, ◌&&◌, ℕ, ℤ, pos, Bool, List, count_by, unwrap_or}
use Rattle.std.specs.BTreeMap.{BTreeMap, get}
use Rattle.std.specs.BTreeSet.{BTreeSet, contains}
use Rattle.std.specs.List.{list_any}
use Rattle.std.specs.Ordering.{int_eq, int_cmp, nat_cmp, ordering_then}
use Rattle.std.specs.declared.cmp.Ordering.{Ordering}
use Rattle.cronplan.specs.declared.job_dates.DateRange.{DateRange}
use Rattle.cronplan.specs.declared.job_dates.Per.{Per}
use Rattle.cronplan.specs.declared.job_dates.Per.TheVariants as per
use Rattle.cronplan.specs.declared.start.JobStart.{JobStart}
use Rattle.cronplan.specs.Counts.{date_of}
use Rattle.cronplan.specs.JobDates.{is_same_day, is_same_job, is_of_job}

-- what starts are like in: the job, or the job and its date
abbrev pub is_like : Per → JobStart → JobStart → Bool
is_like per.Date = is_same_day
is_like per.Plan = is_same_job

-- that as two numbers; in place of a date, where none counts, a 0
abbrev pub key_of : Per → JobStart → ℤ × ℕ
key_of per.Date s = (date_of s.wall, s.job)
key_of per.Plan s = (pos 0, s.job)

-- a start has these
abbrev pub has_key : Per → ℤ × ℕ → JobStart → Bool
has_key p key s = int_eq (key_of p s).0 key.0 && (key_of p s).1 == key.1

-- their order
abbrev pub key_cmp : ℤ × ℕ → ℤ × ℕ → Ordering
key_cmp a b = ordering_then (int_cmp a.0 b.0) (nat_cmp a.1 b.1)

-- a set has those of the starts that were found, and no others
abbrev pub AreSeen : Per → BTreeSet (ℤ × ℕ) → List JobStart → Type 0
AreSeen p seen found = (key : ℤ × ℕ) → contains key_cmp seen key ≡ list_any (has_key p key) found

-- for each job, how many of some starts these are
abbrev pub AreJobCounts : DateRange → List JobStart → BTreeMap ℕ ℕ → Type 0
AreJobCounts dates firsts counts = (job : ℕ) → unwrap_or (get nat_cmp counts job) 0 ≡ count_by (is_of_job dates job) firsts
