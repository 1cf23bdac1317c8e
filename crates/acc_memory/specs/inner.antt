pub mod Buckets
pub mod Devices
pub mod Marks
pub mod Rows
pub mod Windows
