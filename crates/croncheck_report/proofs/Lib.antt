mod AllowedNames
mod Descriptions
mod Endings
mod ExamplesAllowed
mod ExamplesReport
mod FirstItems
mod Outcomes
mod Years
