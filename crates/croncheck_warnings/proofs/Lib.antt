mod ExamplesEffect
mod ExamplesMail
mod ExamplesPresets
mod ExamplesStarred
mod ExamplesUsers
mod ExamplesWarnings
pub mod Items
