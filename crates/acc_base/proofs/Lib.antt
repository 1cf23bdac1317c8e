pub mod ContainsAndOverlaps
pub mod EachQueue
pub mod Lists
pub mod Members
mod Rows
pub mod SameQueue
mod WithinLimits
