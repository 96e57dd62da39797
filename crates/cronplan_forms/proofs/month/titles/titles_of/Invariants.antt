use Rattle.std.proofs.Common.{◌≡◌, take}
use Rattle.std.specs.List.{flat_map}
use Rattle.std.specs.Prelude.{map}
use Rattle.cronplan_forms.specs.PlanMonths.{shown_title, titled, told_of}
use Rattle.cronplan_forms.proofs.month.titles.titles_of.Given as goal

abbrev pub invariant-loop-start : goal.invariant-loop-start
invariant-loop-start l = map shown_title l.titles.items ≡ flat_map (titled (told_of l.jobs)) (take l.start-index l.starts)
