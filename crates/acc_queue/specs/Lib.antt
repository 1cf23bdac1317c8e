pub mod Tied
pub mod Seen
pub mod Published
