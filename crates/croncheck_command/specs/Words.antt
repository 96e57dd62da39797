-- The words of a call.
use Rattle.std.specs.Prelude.{◌≡◌, ◌≤◌, ◌≤ℤ◌, pos, ⊤, ℕ, Bool, true, false, ◌&&◌, Option, Some, None}
use Rattle.croncheck_command.specs.declared.words.Span.{Span}
use Rattle.croncheck_command.specs.declared.words.Span.TheVariants as spans
use Rattle.croncheck_command.specs.declared.words.Verb.{Verb}
use Rattle.croncheck_command.specs.declared.words.Verb.TheVariants as verbs
use Rattle.croncheck_command.specs.declared.words.when.When.{When}
use Rattle.croncheck_command.specs.declared.words.when.When.TheVariants as whens
use Rattle.croncheck_moments.specs.Moment.{IsNamed}

-- what `--from` and `--until` may name: a moment, the next date, a time of day, or up to 1000 years later
abbrev pub IsNamedWhen : When → Type 0
IsNamedWhen (whens.Moment moment) = IsNamed moment
IsNamedWhen whens.Tomorrow = ⊤
IsNamedWhen (whens.Clock hour minute) = ((pos 0 ≤ℤ hour) × (hour ≤ℤ pos 23)) × ((pos 0 ≤ℤ minute) × (minute ≤ℤ pos 59))
IsNamedWhen (whens.Later seconds) = seconds ≤ 31_536_000_000

-- what may be asked for: up to 1000 runs, or those up to a moment that a word names
abbrev pub IsInRange : Span → Type 0
IsInRange (spans.Count n) = n ≤ 1000
IsInRange (spans.Until until) = IsNamedWhen until

-- how many runs before the start may be asked for: none, or up to 1000
abbrev pub AreInRange : Option ℕ → Type 0
AreInRange None = ⊤
AreInRange (Some n) = (1 ≤ n) × (n ≤ 1000)

-- how many runs are looked at where none is told: one to check, none to describe
abbrev pub TellsRuns : Verb → Span → Type 0
TellsRuns verbs.Check span = span ≡ spans.Count 1
TellsRuns verbs.Show span = ⊤
TellsRuns verbs.Plan span = ⊤
TellsRuns verbs.Next span = ⊤
TellsRuns verbs.Describe span = span ≡ spans.Count 0

-- what is asked is of UTC where no zone is given: a description, which depends on no clock; and what GitHub runs, where no crontab is read
-- beside it
abbrev pub is_of_utc : Verb → Bool → Bool → Bool
is_of_utc verbs.Describe is_for_github are_all_patterns = true
is_of_utc verbs.Next is_for_github are_all_patterns = is_for_github
is_of_utc verbs.Check is_for_github are_all_patterns = is_for_github && are_all_patterns
is_of_utc verbs.Show is_for_github are_all_patterns = is_for_github && are_all_patterns
is_of_utc verbs.Plan is_for_github are_all_patterns = false
