-- Worked rows of what is written, computed from the definitions.
use Rattle.std.proofs.Common.{◌≡◌, [], false, true, refl}
use Rattle.std.specs.Prelude.{codes}
use Rattle.croncheck_output.specs.Output.{set_apart}

a_first_text : set_apart false (codes "a\n") ≡ codes "a\n"
a_first_text = refl

a_next_text : set_apart true (codes "a\n") ≡ codes "\na\n"
a_next_text = refl

no_first_text : set_apart false [] ≡ []
no_first_text = refl

no_next_text : set_apart true [] ≡ []
no_next_text = refl
