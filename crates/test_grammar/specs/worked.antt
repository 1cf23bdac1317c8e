pub mod Loops
pub mod Programs
pub mod Schedules
pub mod Scripts
