pub mod Replays
pub mod Splits
