mod ClockTexts
mod ExamplesAgo
mod ExamplesOff
mod ExamplesShown
mod Found
mod TypedPatterns
