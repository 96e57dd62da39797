mod ExamplesTally
mod Kept
mod ToldFiles
