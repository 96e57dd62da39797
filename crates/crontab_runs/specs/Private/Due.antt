-- How many of some minutes a job names, and how many times it is started at the first second of a stretch.
-- Private contracts alone cite these definitions.
use Rattle.std.specs.Prelude.{◌≡◌, Bool, ℕ, ◌<◌, ℤ, pos, neg_ℤ, ◌+ℤ◌, ◌≤ℤ◌, List, length}
use Rattle.croner_base.specs.Zone.{Zone}
use Rattle.crontab_runs.specs.declared.due.Due.{Due}
use Rattle.crontab_runs.specs.declared.stretch.Stretch.{Stretch}
use Rattle.crontab_runs.specs.Starts.{CronJob, AreNamed, StartsTimes, Starts, minute_of, due_after, most_changed}
use Rattle.crontab_runs.specs.Private.Stretches.{far}

-- so many minutes after one, up to another, are named
abbrev pub IsNamedCount : (ℤ → Type 0) → ℤ → ℤ → ℕ → Type 0
IsNamedCount names after upto count = (minutes : List ℤ) × AreNamed names after upto minutes × (length minutes ≡ count)

-- a job is started so many times at i, or not at all
pub record AreStarts (job : CronJob) (z : Zone) (i : ℤ) (count : ℕ) : Type 0 where
  pub times : 0 < count → StartsTimes job z i count
  pub none : count ≡ 0 → ¬ (Starts job z i)

-- at the first second of a stretch the clock shows the minute of the second before
abbrev pub GoesOnWithinMinute : Stretch → Type 0
GoesOnWithinMinute s = minute_of (s.begin +ℤ s.offset) ≡ minute_of s.before

-- it shows another minute there, and a job is due for the minutes after this one, up to the shown one; the numbers are small
pub record IsDueAtBegin (starred : Bool) (s : Stretch) (d : Due) : Type 0 where
  pub turns : ¬ (GoesOnWithinMinute s)
  pub after_is : d.after ≡ due_after starred (minute_of s.before) (minute_of (s.begin +ℤ s.offset))
  pub shown_is : d.shown ≡ minute_of (s.begin +ℤ s.offset)
  pub low : neg_ℤ (pos far) ≤ℤ d.after
  pub order : d.after ≤ℤ d.shown
  pub near : d.shown ≤ℤ (d.after +ℤ pos most_changed)
  pub high : d.shown ≤ℤ pos far
