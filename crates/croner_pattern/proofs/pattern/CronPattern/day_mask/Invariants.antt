use Rattle.std.proofs.Common.{◌≡◌, ℕ, ◌+◌, ◌<◌, true, is_some}
use Rattle.croner_pattern.specs.Meaning.{meaning_of}
use Rattle.croner_pattern.specs.Questions.{date_answer}
use Rattle.croner_pattern.specs.Schedule.{is_day_matching}
use Rattle.croner_pattern.proofs.days.DayMasks.{MaskUpTo}
use Rattle.croner_pattern.proofs.pattern.CronPattern.day_mask.Given as goal

abbrev pub invariant-loop-place : goal.invariant-loop-place
invariant-loop-place l = record {
  built : MaskUpTo (is_day_matching (meaning_of l.self) l.month_length l.first_index) l.place l.mask;
  answered : (p : ℕ) → p < l.place → is_some (date_answer (meaning_of l.self) l.month_length l.first_index (p + 1)) ≡ true;
}
