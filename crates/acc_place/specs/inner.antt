pub mod Devices
pub mod Forms
pub mod Judging
pub mod Noting
pub mod Places
pub mod Trials
