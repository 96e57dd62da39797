-- What is said of a file as a whole.
use Rattle.std.proofs.Common.{◌≡◌, ◌∙◌, ℕ, Bool, List, [], ◌++◌, refl}
use Rattle.std.specs.Prelude.{codes}
use Rattle.crontab.specs.declared.line.Dialect.{Dialect}
use Rattle.croncheck_report.specs.FileSeen.{File, has_many_lines, if_so, ignored, many_lines_text, unfit_reason, reasons_of}

-- the reasons, one put after the other
pub reasons_after : (f : File) (dialect : Dialect) (lines : ℕ) (name : List ℕ) (many : Bool) (said none at_first one two all : List ℕ)
    → name ≡ f.name → many ≡ has_many_lines dialect lines f → said ≡ many_lines_text dialect f ++ codes " (many-lines)\n" → none ≡ []
    → at_first ≡ none ++ unfit_reason name f.unfit
    → one ≡ at_first ++ if_so f.has_refused (ignored name (codes "a line is refused\n"))
    → two ≡ one ++ if_so f.is_unfed (ignored name (codes "its last line has no line feed (no-newline)\n"))
    → all ≡ two ++ if_so many (ignored name said)
    → all ≡ reasons_of dialect lines f
reasons_after f dialect lines name many said none at_first one two all name_is many_is said_is none_is first_is one_is two_is all_is =
    all_is ∙ rw (two_is, one_is, first_is, none_is, many_is, said_is, name_is) refl
