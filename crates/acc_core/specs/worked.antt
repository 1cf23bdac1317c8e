pub mod Closes
pub mod Hosts
pub mod Programs
pub mod Queues
