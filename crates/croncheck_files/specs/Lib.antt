pub mod Fitness
pub mod Folder
pub mod Names
pub mod Root
