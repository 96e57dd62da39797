mod ExamplesBuilds
mod ExamplesLook
mod ExamplesUser
mod ExamplesWritten
mod HarmlessBytes
pub mod InTurn
pub mod OkResults
mod Outputs
mod ShownBytes
mod SpacedBytes
mod WrappedLines
