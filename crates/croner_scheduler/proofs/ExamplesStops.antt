-- Which of some jobs are stopped, computed.
use Rattle.std.proofs.Common.{◌≡◌, refl, pos, [], ◌∷◌}
use Rattle.croner_scheduler.specs.declared.waiting.Refusal.TheVariants.{InvalidTime}
use Rattle.croner_scheduler.specs.Stops.{stops_in}
use Rattle.croner_scheduler.specs.declared.waiting.Next.{Next}
use Rattle.croner_scheduler.specs.declared.waiting.Next.TheVariants.{Run, Over, Stopped}
use Rattle.croner_scheduler.specs.declared.waiting.Stop.TheVariants.{Refused, NotLater}
use Rattle.croner_scheduler.specs.declared.waiting.Waiting.{Waiting}

module _ {J T : Type 0} (job : J) (t : T) where
  abbrev waiting : Next → Waiting J T
  waiting next = record { job = job; position = t; next = next }

  -- of four jobs the second has a run and the third none left
  two_of_four : stops_in ((0, waiting (Stopped (Refused InvalidTime))) ∷ (3, waiting (Run (pos 9))) ∷ (4, waiting Over) ∷ (7, waiting (Stopped NotLater)) ∷ [])
      ≡ (0, Refused InvalidTime) ∷ (7, NotLater) ∷ []
  two_of_four = refl

  -- none is
  none : stops_in ((0, waiting (Run (pos 9))) ∷ (1, waiting Over) ∷ []) ≡ []
  none = refl
