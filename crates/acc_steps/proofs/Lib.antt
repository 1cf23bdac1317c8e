mod DrawnBoxes
mod DrawnSteps
pub mod EventsByLine
mod FoundRanges
pub mod PutSteps
pub mod SourceLines
pub mod ToldSteps
