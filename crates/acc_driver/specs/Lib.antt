pub mod Checks
pub mod Explorations
pub mod Inputs
pub mod Replays
pub mod Runs
pub mod Steps
pub mod inner
pub mod worked
