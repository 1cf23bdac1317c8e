mod AfterOp
mod BlockCalls
mod BlocksFit
mod BlocksRun
mod ByNumber
mod CellsIn
mod CopyCells
pub mod FindBlock
mod Found
pub mod HeldBlocks
mod HostArrays
mod LoadedJobs
mod Marked
mod MemoryCalls
mod Rows
pub mod ShownValues
mod Spread
mod StoredRow
mod WindowCell
