-- The notes of a line, from those of its text and of its words.
use Rattle.std.proofs.Common.{◌≡◌, ◌∙◌, ℕ, List, Option, ap}
use Rattle.std.specs.Prelude.{filter}
use Rattle.crontab.specs.declared.bytes.Kind.TheVariants as kinds
use Rattle.crontab.specs.declared.line.Fault.{Fault}
use Rattle.crontab.specs.declared.notes.Note.{Note}
use Rattle.crontab.specs.Bytes.{text_after}
use Rattle.crontab.specs.Line.{Five, words_of}
use Rattle.crontab.specs.Notes.{is_text_noted, all_notes, notes_of}

pub notes_found : (fault : Option Fault) (line text : List ℕ) (w : Five) (found : List Note) → text ≡ text_after kinds.Blank line → w ≡ words_of text
    → found ≡ filter (λ note. is_text_noted note fault text w) all_notes → found ≡ notes_of fault line
notes_found fault line text w found is words noted =
    noted ∙ ap (λ (five : Five). filter (λ note. is_text_noted note fault text five) all_notes) words
    ∙ ap (λ (t : List ℕ). filter (λ note. is_text_noted note fault t (words_of t)) all_notes) is
