-- The listing of runs from a start: lists of instants that begin it, and what an iterator has yet to give.
use Rattle.std.specs.Prelude.{◌≡◌, ◌&&◌, ℕ, zero, suc, ℤ, ◌⊎◌, ◌++◌, Bool, true, false, IsTrue, List, [], ◌∷◌, Option, Some, None, Result, Ok, Err, map}
use Rattle.std.specs.List.{All, AllPairs, Contains}
use Rattle.croner_base.specs.Zone.{Moment}
use Rattle.croner_base.specs.declared.errors.CronError.{CronError}
use Rattle.croner_base.specs.declared.errors.CronError.TheVariants.{OutOfMemory}
use Rattle.croner_base.specs.declared.time.Direction.{Direction}
use Rattle.croner_pattern.specs.Meaning.{Meaning, meaning_of}
use Rattle.croner.specs.iterator.Faults.{fault_of}
use Rattle.croner.specs.search.Runs.{Job, Precedes, Reaches, Counts}
use Rattle.croner.specs.search.Limit.{InSpan}
use Rattle.croner.specs.search.PatternJob.{pattern_job, timetable_of}
use Rattle.croner.specs.search.Searches.{IsFound, IsRefused}
use Rattle.croner.specs.declared.iterator.CronIterator.{CronIterator}

-- the items begin the listing of what counts: they go strictly in the direction, each counts, and each instant that counts and
-- comes no later than one of them is among them
pub record BeginsWhere (direction : Direction) (counted : ℤ → Type 0) (items : List ℤ) : Type 0 where
  pub ordered : AllPairs (Precedes direction) items
  pub counts : All counted items
  pub complete : (i last : ℤ) → counted i → Contains items last → Reaches direction i last → Contains items i

-- the items begin the listing of a job's runs from s
abbrev pub Begins : Direction → Bool → Job → ℤ → List ℤ → Type 0
Begins direction inclusive job s items = BeginsWhere direction (Counts direction inclusive job s) items

-- where an iterator stands. The first mark is set until its first item; an inclusive search is made only while it is set.
pub record Standing : Type 0 where
  pub pattern : Meaning
  pub position : Moment
  pub is_first : Bool
  pub inclusive : Bool
  pub direction : Direction
  pub fault : Option CronError

-- what contracts see of an iterator
abbrev pub standing_of : {T : Type 0} → (T → Moment) → CronIterator T → Standing
standing_of moment it = record { pattern = meaning_of it.cron.pattern; position = moment it.position; is_first = it.is_first; inclusive = it.inclusive; direction = it.direction; fault = it.fault }

-- a new iterator from a start
abbrev pub new_standing : Meaning → Moment → Bool → Direction → Standing
new_standing m start inclusive direction = record { pattern = m; position = start; is_first = true; inclusive = inclusive; direction = direction; fault = None }

-- the job that it lists the runs of
abbrev pub job_at : Standing → Job
job_at s = pattern_job s.pattern s.position.zone

-- whether its next search counts its position
abbrev pub counts_position : Standing → Bool
counts_position s = s.is_first && s.inclusive

-- the run i is among those that it has yet to give
abbrev pub IsLeft : Standing → ℤ → Type 0
IsLeft s i = Counts s.direction (counts_position s) (job_at s) s.position.instant i

-- the items begin what it has yet to give
abbrev pub BeginsRest : Standing → List ℤ → Type 0
BeginsRest s items = Begins s.direction (counts_position s) (job_at s) s.position.instant items

-- after an item: it stands at that instant, exclusively, and has no fault
abbrev pub moved : Standing → Moment → Standing
moved s item = record s { position = item; is_first = false; fault = None }

-- a call that gave the item: its search found it, and the iterator stands there
pub record GivesItem (old : Standing) (item : Moment) (new : Standing) : Type 0 where
  pub stands : new ≡ moved old item
  pub found : IsFound old.direction (counts_position old) (timetable_of old.pattern) old.position item

-- a call that gave no item: its search was refused, or memory for the item was wanting, which is a refusal too; the iterator
-- stands where it stood, and keeps what refused it unless that is the limit
pub record GivesNone (lack : Bool) (old new : Standing) : Type 0 where
  pub refusal : CronError
  pub refused : IsRefused lack old.direction (counts_position old) (timetable_of old.pattern) old.position refusal
  pub stands : new ≡ record old { fault = fault_of refusal }

-- what a call does once its search has answered: it stands at what was found and gives it, unless memory for it is wanting; a
-- refusal is kept, as it is, unless it is the limit
abbrev pub Settles : {T : Type 0} → (T → Moment) → Bool → Standing → Result T CronError → Option T → Standing → Type 0
Settles moment lack old (Ok found) (Some item) new = (moment item ≡ moment found) × (new ≡ moved old (moment found))
Settles moment lack old (Ok found) None new = IsTrue lack × (new ≡ record old { fault = Some OutOfMemory })
Settles moment lack old (Err refusal) (Some item) new = ⊥
Settles moment lack old (Err refusal) None new = new ≡ record old { fault = fault_of refusal }

-- what a call of `next` does
abbrev pub Steps : {T : Type 0} → (T → Moment) → Bool → CronIterator T → Option T → CronIterator T → Type 0
Steps moment lack old None new = GivesNone lack (standing_of moment old) (standing_of moment new)
Steps moment lack old (Some item) new = GivesItem (standing_of moment old) (moment item) (standing_of moment new)

-- between two standings of an iterator it gave the items: they go strictly in its direction, each was left before, and what
-- was left is among them or is left still, after all of them
pub record Gave (old new : Standing) (items : List ℤ) : Type 0 where
  pub ordered : AllPairs (Precedes old.direction) items
  pub counts : All (IsLeft old) items
  pub either : (i : ℤ) → IsLeft old i → Contains items i ⊎ IsLeft new i
  pub later : (i : ℤ) → IsLeft new i → All (λ x. Precedes old.direction x i) items
  pub within : (i : ℤ) → IsLeft new i → IsLeft old i

-- the items are all that was left in the span
abbrev pub GaveAll : Standing → List ℤ → Type 0
GaveAll old items = (i : ℤ) → IsLeft old i → InSpan old.direction old.position.zone.reads i → Contains items i

-- the instants that values name
abbrev pub instants : {T : Type 0} → (T → Moment) → List T → List ℤ
instants moment items = map (λ t. (moment t).instant) items

-- a call put its item after the others; or it gave none, and the mark says whether it kept no fault, so that nothing is left
abbrev pub Takes : {T : Type 0} → (T → Moment) → Bool → CronIterator T → CronIterator T → List T → List T → Bool → Type 0
Takes moment lack old new before after true = GivesNone lack (standing_of moment old) (standing_of moment new) × ((standing_of moment new).fault ≡ None) × (after ≡ before)
Takes {T} moment lack old new before after false =
    (GivesNone lack (standing_of moment old) (standing_of moment new) × ¬ ((standing_of moment new).fault ≡ None) × (after ≡ before))
    ⊎ ((t : T) × GivesItem (standing_of moment old) (moment t) (standing_of moment new) × (after ≡ before ++ t ∷ []))

-- so many calls one after the other: where the iterator then stands, the items, and the mark of the last call
abbrev pub TakesInTurn : {T : Type 0} → (T → Moment) → Bool → ℕ → CronIterator T → CronIterator T → List T → Bool → Type 0
TakesInTurn moment lack zero old new items mark = (new ≡ old) × (items ≡ []) × (mark ≡ false)
TakesInTurn {T} moment lack (suc calls) old new items mark =
    (between : CronIterator T) × (before : List T) × (b : Bool)
    × TakesInTurn moment lack calls old between before b × Takes moment lack between new before items mark
