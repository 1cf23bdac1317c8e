pub mod Jobs
pub mod Lanes
pub mod Records
pub mod Telling
