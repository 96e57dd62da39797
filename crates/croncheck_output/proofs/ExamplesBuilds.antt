-- Worked rows of texts that begin a line, computed from the definitions.
use Rattle.std.proofs.Common.{◌≡◌, ◌∷◌, true, false, refl}
use Rattle.std.specs.Prelude.{codes}
use Rattle.croncheck_output.specs.Builds.{begins_command, path_shown}
use Rattle.croncheck_output.specs.Escaped.{shown_from}

a_command : begins_command (codes "::error::x") ≡ true
a_command = refl

an_old_one : begins_command (codes "##[error]x") ≡ true
an_old_one = refl

after_blanks : begins_command (codes " \t::error::x") ≡ true
after_blanks = refl

-- the no-break space of UTF-8
after_another_blank : begins_command (194 ∷ 160 ∷ codes "::error::x") ≡ true
after_another_blank = refl

one_colon : begins_command (codes ":error:") ≡ false
one_colon = refl

hashes : begins_command (codes "## [error]") ≡ false
hashes = refl

inside : begins_command (codes "a::error::x") ≡ false
inside = refl

nothing : begins_command (codes "") ≡ false
nothing = refl

a_name_marked : path_shown (codes "::x") ≡ codes "./::x"
unfolding shown_from lib.Utf8.encode
a_name_marked = refl

a_name : path_shown (codes "x::y") ≡ codes "x::y"
unfolding shown_from lib.Utf8.encode
a_name = refl
