-- Days of a month: by counting over the 28 kinds of month, and as the bits of a word.
pub mod DayBits
pub mod DayMasks
pub mod DayTable
pub mod ExamplesDays
pub mod FirstWeekdays
pub mod JoinedTests
pub mod NearestDays
