-- A plan on another clock. Source: this crate's documentation.
use Rattle.std.specs.Prelude.{◌≡◌, List, map, if◌then◌else◌}
use Rattle.std.specs.List.Sorted.{IsPermutation, IsSorted}
use Rattle.croner_base.specs.Table.{is_table_second}
use Rattle.croner_base.specs.Zone.{Zone}
use Rattle.cronplan.specs.declared.plan.Plan.{Plan}
use Rattle.cronplan.specs.declared.start.JobStart.{JobStart}
use Rattle.cronplan.specs.Starts.{start_cmp}

-- a start with what a clock shows then, if a table can have its second
abbrev pub shown_on : Zone → JobStart → JobStart
shown_on z s = if is_table_second s.second then record s { wall = z.reads s.second } else s

-- starts with what that clock shows
abbrev pub all_shown_on : Zone → List JobStart → List JobStart
all_shown_on z starts = map (shown_on z) starts

-- the same span and the same starts, in order, with what that clock shows
pub record IsOnClock (z : Zone) (old new : Plan) : Type 0 where
  pub span : new.span ≡ old.span
  pub starts : IsPermutation (all_shown_on z old.starts.items) new.starts.items
  pub order : IsSorted start_cmp new.starts.items
