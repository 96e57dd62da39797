-- Watched changes of a clock, and a job's seconds at one of them. Private contracts alone cite these definitions.
pub mod Level
pub mod Met
pub mod Watched
