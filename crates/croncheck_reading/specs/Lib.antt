pub mod Files
pub mod Progress
pub mod Same
pub mod Sink
pub mod Stand
pub mod Tally
