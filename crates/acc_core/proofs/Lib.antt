mod AcceleratorNew
mod Accept
mod AddedLabels
mod BatchesDone
pub mod BatchesLeft
mod CloseQueue
mod CloseStep
mod ClosedState
mod ClosesOne
pub mod Enabled
mod LogEntries
mod HavingItems
mod HostCalls
mod HostLaws
mod HostSteps
pub mod IdleSteps
mod ItemAnswer
pub mod KeptPrograms
mod Lanes
pub mod LegalSteps
pub mod Merged
pub mod NextOfQueue
mod NextOp
mod OutsideCells
mod PerformOp
mod QueueTotals
mod RunParts
mod Seats
mod StandingHosts
mod StepChanges
mod TakeBatch
mod WorldSteps
