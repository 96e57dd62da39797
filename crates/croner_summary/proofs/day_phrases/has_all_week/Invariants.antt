use Rattle.std.proofs.Common.{◌≡◌, ℕ, ◌<◌, true}
use Rattle.croner_pattern.specs.Schedule.{is_plain}
use Rattle.croner_summary.proofs.day_phrases.has_all_week.Given as goal

abbrev pub invariant-loop-weekday : goal.invariant-loop-weekday
invariant-loop-weekday l = (weekday : ℕ) → weekday < l.weekday → is_plain l.weekdays weekday ≡ true
