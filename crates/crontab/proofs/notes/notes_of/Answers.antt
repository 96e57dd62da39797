use Rattle.crontab.proofs.NotesFound.{notes_found}
use Rattle.crontab.proofs.notes.notes_of.Goals as goal

pub returns : goal.returns
returns c =
    notes_found c.args.fault c.args.line.now _ _ _ c.cut.ensures.after c.words_of.ensures c.in_ok-found.ensures
