pub mod Abreast
mod ArrayFlags
mod ArraysOf
pub mod CellIn
pub mod EitherRow
pub mod ExprValue
pub mod FilledColumn
mod HeldBy
mod KernelReach
pub mod JobValues
pub mod LoopTurns
pub mod ReachOf
pub mod ReadAndWritten
pub mod RunColumns
mod Scans
pub mod ShownRows
pub mod SplicedRow
pub mod StackAt
mod TreeOf
pub mod ValueAfter
mod WithinLimits
