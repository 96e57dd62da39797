-- The run that is given: it is found again by its second, and its job moves there.
use Rattle.std.proofs.Common.{◌≡◌, sym, ◌∙◌, subst, ℤ, true, Option, Some, None}
use Rattle.std.proofs.Math.Logic.{∥∥₁_elim}
use Rattle.std.proofs.Props.{props}
use Rattle.std.proofs.lemmas.Bool.{false≢true}
use Rattle.std.specs.Option.{IsSomeAnd}
use Rattle.croner_base.specs.Clocked.{IsAtSecond}
use Rattle.croner_base.specs.Zone.{Zone, Moment, at_instant}
use Rattle.croner_scheduler.proofs.Nearest.{same_second}
use Rattle.croner_scheduler.specs.declared.waiting.Next.{Next}
use Rattle.croner_scheduler.specs.declared.waiting.Next.TheVariants.{Run, Over, Stopped}
use Rattle.croner_scheduler.specs.declared.waiting.Waiting.{Waiting}
use Rattle.croner_scheduler.specs.Kept.{FitsOrPaused, Fits}
use Rattle.croner_scheduler.specs.Private.Steps.{is_next_at}

-- the second of a next run is held
holds_next : (second : ℤ) (rs : Zone → ℤ → Type 0) (m : Moment) (n : Next) → is_next_at second n ≡ true → FitsOrPaused rs m n → m.zone.holds second ≡ true
holds_next second rs m (Run i) at fits = subst (λ i. m.zone.holds i ≡ true) (same_second i second at) fits.2
holds_next second rs m Over at fits = absurd (false≢true at)
holds_next second rs m (Stopped stop) at fits = absurd (false≢true at)

module _ {J T : Type 0} (moment : T → Moment) (second : ℤ) where
  -- so the run is found there
  pub run_found : (runs : J → Zone → ℤ → Type 0) (w : Waiting J T) → ∥ Fits runs moment w ∥₁ → is_next_at second w.next ≡ true
      → (found : Option T) → IsAtSecond moment (moment w.position).zone second found
      → IsSomeAnd found (λ t. moment t ≡ at_instant (moment w.position).zone second)
  run_found runs w fits at (Some t) is = is.0
  run_found runs w fits at None unheld =
      absurd (false≢true (sym unheld ∙ ∥∥₁_elim fits (hlevel props) (λ f. holds_next second (runs w.job) (moment w.position) w.next at f.next)))
