-- Fields: what the reader of a text marks, part by part, and what the marks come to.
pub mod CountedValues
pub mod DefaultField
pub mod ExamplesParts
pub mod MarkSets
pub mod MarkedSteps
pub mod ModifierSets
pub mod PartsInTurn
pub mod ReadingsInTurn
pub mod SignPlaces
pub mod StarAlone
pub mod SteppedParts
pub mod TextPieces
pub mod ValueRanges
