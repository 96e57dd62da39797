-- What a search is of, and what it may come to.
-- Private contracts alone cite these definitions.
use Rattle.std.specs.Prelude.{ℤ, Bool}
use Rattle.croner_base.specs.declared.errors.CronError.{CronError}
use Rattle.croner_base.specs.Zone.{Moment}
use Rattle.croner.specs.search.Runs.{Timetable, Job, job_in}
use Rattle.croner.specs.search.Searches.{IsFound, IsRefused}
use Rattle.croner.specs.Private.search.Walk.{Walking, HasPassed}
use Rattle.croner.specs.declared.search.Search.{Search}
use Rattle.croner.specs.declared.search.walk.Passed.{Passed}

-- the moment that a search starts at
abbrev pub start_of : {T S : Type 0} → (T → Moment) → Search T S → Moment
start_of moment search = moment search.start.now

-- the job whose runs it looks for
abbrev pub sought : {T S : Type 0} → (T → Moment) → (S → Timetable) → Search T S → Job
sought moment timetable search = job_in (moment search.start.now).zone (timetable search.schedule.now)

-- its walk has come to a wall second
abbrev pub HasComeTo : {T S : Type 0} → (T → Moment) → (S → Timetable) → Search T S → ℤ → Type 0
HasComeTo moment timetable search wall =
    Walking search.direction search.inclusive (sought moment timetable search) (start_of moment search).instant (start_of moment search).fraction wall

-- a pass of its walk at a wall second comes to this
abbrev pub PassesTo : {T S : Type 0} → (T → Moment) → (S → Timetable) → Search T S → ℤ → Passed T → Type 0
PassesTo moment timetable search w passed =
    HasPassed moment search.direction search.inclusive (sought moment timetable search) (start_of moment search) w passed

-- the value is an answer of it
abbrev pub IsAnswerOf : {T S : Type 0} → (T → Moment) → (S → Timetable) → Search T S → T → Type 0
IsAnswerOf moment timetable search t =
    IsFound search.direction search.inclusive (timetable search.schedule.now) (start_of moment search) (moment t)

-- why it is refused
abbrev pub IsRefusalOf : {T S : Type 0} → (T → Moment) → (S → Timetable) → Bool → Search T S → CronError → Type 0
IsRefusalOf moment timetable lack search e =
    IsRefused lack search.direction search.inclusive (timetable search.schedule.now) (start_of moment search) e
