-- Jobs that are the same as an earlier one. Source: docs/CRONTAB.md, `same-job`.
use Rattle.std.specs.Prelude.{Option, Some, None, ◌≡◌, ◌++◌, ◌∷◌, ◌||◌, ℕ, Bool, false, List, [], option_map, unwrap_or, if◌then◌else◌}
use Rattle.crontab.specs.declared.content.Outcome.TheVariants as outcomes
use Rattle.std.specs.BTreeMap.{get}
use Rattle.std.specs.Cmp.Lexicographic.{slice_cmp}
use Rattle.std.specs.Option.{option_or}
use Rattle.std.specs.Ordering.{nat_cmp, ordering_then, is_eq}
use Rattle.std.specs.declared.alloc.Global.{Global}
use Rattle.std.specs.declared.cmp.Ordering.{Ordering}
use Rattle.std.specs.declared.vec.Vec.{Vec}
use Rattle.croner_pattern.specs.Meaning.{Meaning}
use Rattle.croner_pattern.specs.Order.{pattern_cmp}
use Rattle.croner.specs.declared.job.Cron.{Cron}
use Rattle.croner.specs.Views.{job_of}
use Rattle.crontab.specs.declared.content.Outcome.{Outcome}
use Rattle.crontab.specs.Line.{Line, job}
use Rattle.croncheck_report.specs.declared.report.Same.{Same}
use Rattle.croncheck_reading.specs.declared.same.Seen.{Seen}
use Rattle.croncheck_report.specs.Report.{file_and_line}

-- ---- what is compared

-- the times of a job as they are compared: where a day field is `*`, it doesn't count that a day has to match both
abbrev pub times_compared : Meaning → Meaning
times_compared m = if m.star_day || m.star_weekday then record m { and = false } else m

-- those of the job of a line: a pattern's are compared as they are
abbrev pub job_compared_in : Line → Meaning → Meaning
job_compared_in (job task) m = times_compared m
job_compared_in other m = m

-- the bytes of a job's user and of its command, with a byte 0 between, which is in neither
abbrev pub owner_of : Line → List ℕ
owner_of (job task) = unwrap_or task.user [] ++ 0 ∷ task.command
owner_of other = []

-- what is compared of a job: user and command, and times
abbrev pub JobKey : Type 0
JobKey = Vec ℕ Global × Cron

-- the bytes are compared first, and then the times
abbrev pub key_cmp : JobKey → JobKey → Ordering
key_cmp a b = ordering_then (slice_cmp nat_cmp a.0.items b.0.items) (pattern_cmp a.1.pattern b.1.pattern)

-- two are the same: byte for byte, and in their times, whatever text these were read from
abbrev pub are_same : JobKey → JobKey → Bool
are_same a b = is_eq (key_cmp a b)

-- the meaning of the job that the parser makes of a line's times, if it makes one
abbrev pub meaning_found : Outcome → Option Meaning
meaning_found outcomes.NoText = None
meaning_found (outcomes.Job found) = Some (job_of found)
meaning_found (outcomes.TimesRefused e) = None
meaning_found (outcomes.PatternRefused fault) = None
meaning_found outcomes.NotUtf8 = None

-- what is compared of a line of which the parser makes this, if anything is
abbrev pub IsCompared : Line → Outcome → Option JobKey → Type 0
IsCompared line found None = meaning_found found ≡ None
IsCompared line found (Some key) = (Some (job_of key.1) ≡ option_map (job_compared_in line) (meaning_found found)) × (key.0.items ≡ owner_of line)

-- ---- what is kept

-- the place that is kept of a job
abbrev pub place_kept : Seen → JobKey → Option (List ℕ × ℕ)
place_kept seen key = option_map file_and_line (get key_cmp seen.jobs key)

-- each job has the place that it had
abbrev pub KeepsPlaces : Seen → Seen → Type 0
KeepsPlaces old new = (key : JobKey) → place_kept new key ≡ place_kept old key

-- a job at a place is told the place that is kept of it; and each job keeps its place, or has this one from then on, if it has none and is the
-- same
pub record Finds (key : JobKey) (here : List ℕ × ℕ) (old new : Seen) (found : Option Same) : Type 0 where
  pub earlier : option_map file_and_line found ≡ place_kept old key
  pub first : (other : JobKey) → place_kept new other ≡ option_or (place_kept old other) (if are_same key other then Some here else None)

-- the same, if there is a job
abbrev pub FindsAny : Option JobKey → List ℕ × ℕ → Seen → Seen → Option Same → Type 0
FindsAny None here old new found = (found ≡ None) × (new ≡ old)
FindsAny (Some key) here old new found = Finds key here old new found
