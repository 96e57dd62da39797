-- Lines word by word. Private contracts alone cite these definitions.
pub mod Wrapping
