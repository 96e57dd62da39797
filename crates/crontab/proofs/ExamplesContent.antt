-- Worked rows of the content of lines, computed from its definitions.
use Rattle.std.proofs.Common.{◌≡◌, ℕ, List, [], ◌∷◌, refl}
use Rattle.std.specs.Prelude.{codes}
use Rattle.std.specs.Fmt.{digits}
use Rattle.crontab.specs.declared.content.Outcome.TheVariants as outcomes
use Rattle.crontab.specs.declared.line.Dialect.{Dialect}
use Rattle.crontab.specs.declared.line.Dialect.TheVariants as dialects
use Rattle.crontab.specs.declared.notes.Note.{Note}
use Rattle.crontab.specs.declared.notes.Note.TheVariants as notes
use Rattle.crontab.specs.Content.{IsOutcomeOfTimes, notes_in}
use Rattle.crontab.specs.Line.{reboot, never, entry_of}

-- the notes of a line in a dialect
abbrev noted : Dialect → List ℕ → List Note
noted dialect line = notes_in (entry_of dialect line) line

a_job_with_a_star_among_parts : noted dialects.User (codes "*,5 * * * * x") ≡ notes.StarAmongParts ∷ []
unfolding digits
a_job_with_a_star_among_parts = refl

the_same_as_a_pattern : noted dialects.Patterns (codes "*,5 * * * *") ≡ []
unfolding digits
the_same_as_a_pattern = refl

the_same_as_a_comment : noted dialects.User (codes "#*,5 * * * * x") ≡ []
unfolding digits
the_same_as_a_comment = refl

the_same_as_a_value : noted dialects.User (codes "A=*,5 * * * * x") ≡ []
unfolding digits
the_same_as_a_value = refl

a_refused_line : noted dialects.User (codes "jan * * * * x") ≡ notes.OtherName ∷ []
unfolding digits
a_refused_line = refl

a_job_that_never_runs_has_no_text : IsOutcomeOfTimes never outcomes.NoText
a_job_that_never_runs_has_no_text = refl

a_job_at_the_start_has_none : IsOutcomeOfTimes reboot outcomes.NoText
a_job_at_the_start_has_none = refl
