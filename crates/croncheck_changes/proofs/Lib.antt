mod ExamplesChanges
mod LevelClock
mod ListedChanges
mod Meetings
mod WatchedYears
