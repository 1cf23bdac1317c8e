mod AwaitedNumber
pub mod FirstLoop
pub mod Labels
pub mod Lives
pub mod NextOperation
pub mod OrderedBatches
pub mod PackedValues
pub mod Seats
pub mod WholeBatches
