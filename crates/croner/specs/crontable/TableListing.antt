-- The listing of a table's runs from a start: lists of instants with their places that begin it, and what an iterator has yet
-- to give.
use Rattle.std.specs.Prelude.{◌≡◌, ◌&&◌, ℕ, ℤ, Bool, true, false, List, [], Option, None, MatchOption}
use Rattle.croner_base.specs.Zone.{Moment}
use Rattle.croner_base.specs.declared.errors.CronError.{CronError}
use Rattle.croner_base.specs.declared.errors.CronError.TheVariants.{TimeSearchLimitExceeded}
use Rattle.croner_base.specs.declared.time.Direction.{Direction}
use Rattle.croner_pattern.specs.Meaning.{Meaning}
use Rattle.std.specs.declared.alloc.Global.{Global}
use Rattle.std.specs.declared.vec.Vec.{Vec}
use Rattle.croner.specs.iterator.Faults.{fault_of}
use Rattle.croner.specs.crontable.Tables.{patterns_of, CountsAt, TableCounts, IsTableFound, IsTableRefused}
use Rattle.croner.specs.declared.crontable.iterator.CronTableIterator.{CronTableIterator}

-- where an iterator over a table stands: as one over a pattern, with the table's patterns in the place of the one
pub record TableStanding : Type 0 where
  pub patterns : List Meaning
  pub position : Moment
  pub is_first : Bool
  pub inclusive : Bool
  pub direction : Direction
  pub fault : Option CronError

-- what contracts see of such an iterator
abbrev pub table_standing_of : {T : Type 0} {d : _} {c : _} → (T → Moment) → CronTableIterator T d c → TableStanding
table_standing_of moment it = record {
  patterns = patterns_of it.table.now;
  position = moment it.position;
  is_first = it.is_first;
  inclusive = it.inclusive;
  direction = it.direction;
  fault = it.fault;
}

-- a new iterator from a start
abbrev pub new_table_standing : List Meaning → Moment → Bool → Direction → TableStanding
new_table_standing patterns start inclusive direction = record {
  patterns = patterns;
  position = start;
  is_first = true;
  inclusive = inclusive;
  direction = direction;
  fault = None;
}

-- whether its next search counts its position
abbrev pub counts_table_position : TableStanding → Bool
counts_table_position s = s.is_first && s.inclusive

-- the run of the place k at i is among those that it has yet to give
abbrev pub IsLeftAt : TableStanding → ℕ → ℤ → Type 0
IsLeftAt s k i = CountsAt s.direction (counts_table_position s) s.patterns s.position.zone s.position.instant k i

-- the table run at i is among those that it has yet to give
abbrev pub IsTableLeft : TableStanding → ℤ → Type 0
IsTableLeft s i = TableCounts s.direction (counts_table_position s) s.patterns s.position.zone s.position.instant i

-- after an item: it stands at that instant, exclusively, and has no fault
abbrev pub table_moved : TableStanding → Moment → TableStanding
table_moved s item = record s { position = item; is_first = false; fault = None }

-- a call that gave the item with its places: its search found them, and the iterator stands there
pub record GivesTableItem (old : TableStanding) (item : Moment) (places : List ℕ) (new : TableStanding) : Type 0 where
  pub stands : new ≡ table_moved old item
  pub found : IsTableFound old.direction (counts_table_position old) old.patterns old.position item places

-- a call that gave no item: its search was refused, or memory for the item was wanting, which is a refusal too; over a table
-- without patterns it is the limit. The iterator stands where it stood, and keeps what refused it unless that is the limit
pub record GivesNoTableItem (old new : TableStanding) : Type 0 where
  pub refusal : CronError
  pub refused : IsTableRefused old.direction (counts_table_position old) old.patterns old.position refusal
  pub none : old.patterns ≡ [] → refusal ≡ TimeSearchLimitExceeded
  pub stands : new ≡ record old { fault = fault_of refusal }

-- what a call of `next` does
abbrev pub TableSteps : {T : Type 0} {d : _} {c : _} → (T → Moment) → CronTableIterator T d c → Option (T × Vec ℕ Global) → CronTableIterator T d c → Type 0
TableSteps moment old result new =
    MatchOption result (GivesNoTableItem (table_standing_of moment old) (table_standing_of moment new))
    (λ item. GivesTableItem (table_standing_of moment old) (moment item.0) item.1.items (table_standing_of moment new))
