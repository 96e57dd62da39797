-- What one run appends to a text.
use Rattle.std.specs.Prelude.{◌≡◌, ◌++◌, ◌∷◌, [], ℕ, Bool, List}
use Rattle.croner_base.specs.Zone.{Moment}
use Rattle.croner.specs.iterator.Listing.{Standing, GivesItem}
use Rattle.cronrun_command.specs.Line.{IsLine}

-- the listing gave a run, and its line was put after the text
pub record AddsNext (in_zone : Bool) (old new : Standing) (before after : List ℕ) : Type 0 where
  pub run : Moment
  pub gives : GivesItem old run new
  pub text : List ℕ
  pub line : IsLine in_zone run text
  pub added : after ≡ before ++ (text ++ 10 ∷ [])
