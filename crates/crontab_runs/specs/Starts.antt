-- What Debian's cron starts of a job, minute by minute, also where the clock changes: for a cron that runs all the time, looks at the clock
-- each second, and whose starts take no time; in a calm zone, from 1970 on the wall clock. A real one sleeps up to the next minute, which
-- it may miss if the clock changes within it. Where a clock shows a minute 180 or more below the greatest, which no calm one does, cron
-- forgets the greatest, and this definition doesn't. Source: the main loop of cron 3.0pl1-162.
use Rattle.std.specs.Prelude.{◌≡◌, ◌&&◌, ℕ, ◌+◌, ◌<◌, Bool, if◌then◌else◌, ℤ, pos, ◌-ℤ◌, ◌<ℤ◌, ◌≤ℤ◌, int_le, List, length}
use Rattle.std.specs.Int.{int_div_euclid}
use Rattle.std.specs.List.{All, Contains}
use Rattle.croner_base.specs.Calm.{Rises}
use Rattle.croner_base.specs.Zone.{Zone}
use Rattle.croner_pattern.specs.Meaning.{Meaning}
use Rattle.croner_pattern.specs.Schedule.{IsScheduled}

-- the minute in which a wall second lies, counted from 1970-01-01T00:00
abbrev pub minute_of : ℤ → ℤ
minute_of w = int_div_euclid w (pos 60)

-- a pattern names the minutes that have a scheduled second
abbrev pub NamesMinute : Meaning → ℤ → Type 0
NamesMinute m k = (w : ℤ) × (minute_of w ≡ k) × IsScheduled m w

-- what cron goes by: the minutes that a job names, and whether it is starred (the text of its minutes or of its hours begins with a star)
pub record CronJob : Type 1 where
  pub names : ℤ → Type 0
  pub starred : Bool

-- the job of a pattern
abbrev pub cron_job : Meaning → Bool → CronJob
cron_job m starred = record { names = NamesMinute m; starred = starred }

-- the most minutes that cron makes up for as if it were late, and the most that it makes up for, or waits out, as a change of the clock
abbrev pub most_late : ℕ
most_late = 5

abbrev pub most_changed : ℕ
most_changed = 180

-- a minute so far from 1970, on either side, no clock shows
abbrev pub far_minute : ℕ
far_minute = 1_000_000_000_000

-- a number is one of those from the first to the last
abbrev pub is_from_to : ℤ → ℤ → ℤ → Bool
is_from_to first last d = int_le first d && int_le d last

-- cron starts a job for each minute that it names after this one, up to the minute m that the clock shows now; r is the greatest that it has shown
-- before. m lies up to 5 minutes after r: it starts each job from r on. From 6 to 180: so it does, but a starred job for m alone. From 0 to 179
-- before r: a starred job for m, and no other. Else: each job for m alone
abbrev pub due_after : Bool → ℤ → ℤ → ℤ
due_after starred r m =
    if is_from_to (pos 1) (pos most_late) (m -ℤ r) then r
    else (if is_from_to (pos (most_late + 1)) (pos most_changed) (m -ℤ r) then (if starred then m -ℤ pos 1 else r)
    else (if is_from_to (pos 1 -ℤ pos most_changed) (pos 0) (m -ℤ r) then (if starred then m -ℤ pos 1 else m)
    else m -ℤ pos 1))

-- the list has the minutes after one, up to another, that are named, in order
pub record AreNamed (names : ℤ → Type 0) (after upto : ℤ) (minutes : List ℤ) : Type 0 where
  pub rises : Rises minutes
  pub named : All (λ k. (after <ℤ k) × (k ≤ℤ upto) × names k) minutes
  pub complete : (k : ℤ) → after <ℤ k → k ≤ℤ upto → names k → Contains minutes k

-- at i the clock shows another minute than a second before
abbrev pub Turns : Zone → ℤ → Type 0
Turns z i = ¬ (minute_of (z.reads i) ≡ minute_of (z.reads (i -ℤ pos 1)))

-- r is the greatest minute that the clock has shown before i
pub record IsGreatestBefore (z : Zone) (i r : ℤ) : Type 0 where
  pub shown : (j : ℤ) × (j <ℤ i) × (minute_of (z.reads j) ≡ r)
  pub greatest : (j : ℤ) → j <ℤ i → minute_of (z.reads j) ≤ℤ r

-- cron starts a job at i once for each of these minutes
pub record StartsFor (job : CronJob) (z : Zone) (i : ℤ) (minutes : List ℤ) : Type 0 where
  pub turns : Turns z i
  pub before : ℤ
  pub greatest : IsGreatestBefore z i before
  pub due : AreNamed job.names (due_after job.starred before (minute_of (z.reads i))) (minute_of (z.reads i)) minutes

-- cron starts a job at i so many times
abbrev pub StartsTimes : CronJob → Zone → ℤ → ℕ → Type 0
StartsTimes job z i n = (minutes : List ℤ) × StartsFor job z i minutes × (length minutes ≡ n)

-- cron starts a job at i, once or more
abbrev pub Starts : CronJob → Zone → ℤ → Type 0
Starts job z i = (n : ℕ) × (0 < n) × StartsTimes job z i n
