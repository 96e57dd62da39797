-- The nearest run of a pattern, and whether a second is a scheduled one: what the calls answer.
use Rattle.std.specs.Prelude.{◌≡◌, ◌↔◌, Bool, true, false, IsTrue, ℕ, ℤ, pos, List, Result, Ok, Err, if◌then◌else◌}
use Rattle.croner_base.specs.Zone.{Zone}
use Rattle.croner_base.specs.declared.time.Direction.{Direction}
use Rattle.croner_pattern.specs.Meaning.{Meaning}
use Rattle.croner_pattern.specs.Schedule.{IsScheduled}
use Rattle.croner.specs.parser.Settings.{Settings}
use Rattle.croner.specs.search.Limit.{NoneInSpan}
use Rattle.croner.specs.search.PatternJob.{pattern_job}
use Rattle.croner.specs.search.Runs.{Nearest}
use Rattle.croner_c.specs.Answers.{After, Then}
use Rattle.croner_c.specs.Clocks.{has, IsZoneAt}
use Rattle.croner_c.specs.Patterns.{IsPattern, asked}
use Rattle.croner_c.specs.declared.clock.Clock.{Clock}
use Rattle.croner_c.specs.declared.status.Reason.{Reason}
use Rattle.croner_c.specs.declared.status.Reason.TheVariants as reasons

-- ---- the nearest run

-- the nearest run in a zone, if it lies in the clock's window; it lies outside; or none is left in the searched years
abbrev pub IsRunIn : Direction → Bool → Meaning → Clock → ℤ → Zone → Result ℤ Reason → Type 0
IsRunIn direction inclusive m c start z (Ok run) = Nearest direction inclusive (pattern_job m z) start run × (has c run ≡ true)
IsRunIn direction inclusive m c start z (Err reasons.Outside) = (run : ℤ) × Nearest direction inclusive (pattern_job m z) start run × (has c run ≡ false)
IsRunIn direction inclusive m c start z (Err reasons.Limit) = NoneInSpan direction inclusive (pattern_job m z) start
IsRunIn direction inclusive m c start z (Err other) = ⊥

-- on a clock
abbrev pub IsRunOn : Direction → Bool → Meaning → Clock → ℤ → Result ℤ Reason → Type 0
IsRunOn direction inclusive m c start answer = After (IsZoneAt c start) (IsRunIn direction inclusive m c start) answer

-- of a text with its settings
abbrev pub IsRunOf : Direction → Settings → Bool → List ℕ → Clock → ℤ → Result ℤ Reason → Type 0
IsRunOf direction s inclusive text c start answer = After (IsPattern s text) (λ m. IsRunOn direction inclusive m c start) answer

-- of a call
abbrev pub IsNearestRun : Direction → List ℕ → ℕ → Clock → ℤ → ℤ → Result ℤ Reason → Type 0
IsNearestRun direction text settings c start mark answer = Then (asked settings mark c) (λ a. IsRunOf direction a.0 a.1 text c start) answer

-- the run is written, with status 0
abbrev pub tell_run : ℤ → ℤ → ℤ × ℤ
tell_run run old = (pos 0, run)

-- ---- whether a second is a scheduled one

-- whether the clock of a zone shows a scheduled second
abbrev pub IsMatchIn : Meaning → ℤ → Zone → Result Bool Reason → Type 0
IsMatchIn m i z (Ok held) = IsTrue held ↔ IsScheduled m (z.reads i)
IsMatchIn m i z (Err reason) = ⊥

-- on a clock
abbrev pub IsMatchOn : Meaning → Clock → ℤ → Result Bool Reason → Type 0
IsMatchOn m c i answer = After (IsZoneAt c i) (IsMatchIn m i) answer

-- of a text with its settings
abbrev pub IsMatchOf : Settings → List ℕ → Clock → ℤ → Result Bool Reason → Type 0
IsMatchOf s text c i answer = After (IsPattern s text) (λ m. IsMatchOn m c i) answer

-- of a call
abbrev pub IsMatch : List ℕ → ℕ → Clock → ℤ → Result Bool Reason → Type 0
IsMatch text settings c i answer = Then (asked settings (pos 0) c) (λ a. IsMatchOf a.0 text c i) answer

-- 1 for true, 0 for false
abbrev pub number_of : Bool → ℤ
number_of held = if held then pos 1 else pos 0

-- the number is written, with status 0
abbrev pub tell_mark : Bool → ℤ → ℤ × ℤ
tell_mark held old = (pos 0, number_of held)
