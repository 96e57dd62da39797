mod CountedRuns
mod ExamplesOften
mod OftenTold
