-- Worked rows of what is asked of UTC, computed from the definition.
use Rattle.std.proofs.Common.{◌≡◌, refl, true, false}
use Rattle.croncheck_command.specs.declared.words.Verb.TheVariants as verbs
use Rattle.croncheck_command.specs.Words.{is_of_utc}

next_of_github : is_of_utc verbs.Next true true ≡ true
next_of_github = refl

show_of_github : is_of_utc verbs.Show true true ≡ true
show_of_github = refl

a_crontab_beside_its_patterns : is_of_utc verbs.Show true false ≡ false
a_crontab_beside_its_patterns = refl

next_of_another_program : is_of_utc verbs.Next false true ≡ false
next_of_another_program = refl

a_description : is_of_utc verbs.Describe false true ≡ true
a_description = refl
