mod AskedFiles
mod ExamplesFitness
mod ExamplesFolder
mod ExamplesNames
