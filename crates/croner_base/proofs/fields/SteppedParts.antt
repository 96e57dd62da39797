-- A part with a step, put together.
use Rattle.std.proofs.Common.{◌≡◌, ℕ, Bool, true, false, cond, not, eqb, List, Result, sym, subst, ap}
use Rattle.croner_base.specs.declared.errors.CronError.{CronError}
use Rattle.croner_base.specs.Field.{Field}
use Rattle.croner_base.specs.Part.{is_starred, stepped_by, stepped_from}
use Rattle.croner_base.specs.Reading.{steps, stars, Reading, nothing, did, ◌then◌, wants, Reads}

-- the state at the marks
abbrev pub with_step : Field → ℕ → Bool → Field
with_step f step starred = record f { step = step; wildcard = cond starred true f.wildcard }

marks_last : (old new : Field) (answer : Result (Unit {0}) CronError) (step : ℕ) (starred : Bool) (marks : Reading) → Reads marks (with_step old step starred) new answer → Reads (((did (steps step) then nothing) then cond starred (did stars) nothing) then marks) old new answer
marks_last old new answer step false marks h = record { answer = h.answer; state = h.state }
marks_last old new answer step true marks h = record { answer = h.answer; state = h.state }

-- of a step that isn't 0
pub marks_after_step : (old new : Field) (answer : Result (Unit {0}) CronError) (left : List ℕ) (step tag : ℕ) → eqb step 0 ≡ false → Reads (stepped_from old.shape left step tag) (with_step old step (is_starred old.shape left)) new answer → Reads (stepped_by old.shape left step tag) old new answer
marks_after_step old new answer left step tag h reads =
    subst (λ x. Reads x old new answer)
    (sym (ap (λ b. ((did (steps step) then wants (not b) nothing) then cond (is_starred old.shape left) (did stars) nothing) then stepped_from old.shape left step tag) h))
    (marks_last old new answer step (is_starred old.shape left) _ reads)
