mod Dates
mod DatesAfter
mod ExamplesDates
mod ExamplesZone
mod Moments
mod ZoneWords
