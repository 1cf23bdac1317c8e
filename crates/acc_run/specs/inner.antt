pub mod Discarding
pub mod Reading
