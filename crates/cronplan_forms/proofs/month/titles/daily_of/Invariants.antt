use Rattle.std.proofs.Common.{◌≡◌, take}
use Rattle.std.specs.List.{flat_map}
use Rattle.std.specs.Prelude.{map}
use Rattle.cronplan_forms.specs.PlanMonths.{shown_daily, told_at, told_of}
use Rattle.cronplan_forms.proofs.month.titles.daily_of.Given as goal

abbrev pub invariant-loop-place : goal.invariant-loop-place
invariant-loop-place l = map shown_daily l.daily.items ≡ flat_map (told_at (told_of l.jobs)) (take l.place-index l.places)
