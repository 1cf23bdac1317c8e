pub mod GapAt
mod Span
pub mod TokenSpelling
pub mod Turns
mod ValueBehind
