-- Why a listing ends before it has so many runs.
use Rattle.std.specs.Prelude.{◌≡◌, ◌⊎◌, Bool}
use Rattle.croner_base.specs.Zone.{Moment}
use Rattle.croner_base.specs.declared.errors.CronError.{CronError}
use Rattle.croner_base.specs.declared.errors.CronError.TheVariants.{OutOfMemory}
use Rattle.croner.specs.iterator.Listing.{Standing, GivesItem, GivesNone}
use Rattle.cronrun_command.specs.Reason.{reason_of}

-- the listing gave no run, and this is the reason
pub record EndsFor (lack : Bool) (old new : Standing) (e : CronError) : Type 0 where
  pub none : GivesNone lack old new
  pub reason : e ≡ reason_of new.fault

-- the listing gave a run, for whose line room was wanting
pub record WantsRoom (old : Standing) (e : CronError) : Type 0 where
  pub run : Moment
  pub new : Standing
  pub gives : GivesItem old run new
  pub reason : e ≡ OutOfMemory

-- the listing gave no run, for this reason; or room for its line was wanting
abbrev pub Ends : Bool → Standing → CronError → Type 0
Ends lack now e = ((last : Standing) × EndsFor lack now last e) ⊎ WantsRoom now e
