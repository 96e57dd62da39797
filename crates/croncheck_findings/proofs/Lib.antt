mod ExamplesFindings
mod Pushed
