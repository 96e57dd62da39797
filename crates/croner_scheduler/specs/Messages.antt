-- The texts of the errors.
use Rattle.std.specs.Prelude.{ℕ, List, codes}
use Rattle.croner_scheduler.specs.declared.add.AddError.{AddError}
use Rattle.croner_scheduler.specs.declared.add.AddError.TheVariants.{OutOfMemory, NoIdLeft, SecondBeforeNotHeld, NoJob}

-- the text of each error
abbrev pub text_of : AddError → List ℕ
text_of OutOfMemory = codes "Out of memory."
text_of NoIdLeft = codes "No id is left for another job."
text_of SecondBeforeNotHeld = codes "The second before the start isn't held."
text_of NoJob = codes "No job has the id."
