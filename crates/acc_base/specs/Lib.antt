pub mod Configurations
pub mod Faults
pub mod Queues
pub mod Ranges
pub mod Lists
