use Rattle.std.proofs.Common.{◌≡◌, take}
use Rattle.std.specs.Prelude.{filter}
use Rattle.crontab.specs.Entries.{words_seen}
use Rattle.crontab.specs.Notes.{is_text_noted}
use Rattle.crontab.proofs.notes.those_noted.Given as goal

abbrev pub invariant-loop-note : goal.invariant-loop-note
invariant-loop-note l = l.found.items ≡ filter (λ note. is_text_noted note l.fn.fault l.fn.text (words_seen l.fn.words)) (take l.note-index l.fn.notes)
