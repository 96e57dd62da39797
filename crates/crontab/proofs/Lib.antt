mod Examples
mod ExamplesContent
mod NoteRows
mod NotesFound
mod Parts
mod RefusedParts
mod ReadLines
pub mod TakenLines
