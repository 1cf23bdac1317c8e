pub mod Cases
pub mod Differences
pub mod Folders
pub mod Names
pub mod Options
pub mod Runs
pub mod worked
