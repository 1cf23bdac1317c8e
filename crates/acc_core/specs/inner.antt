pub mod Answers
pub mod Closing
pub mod Queues
pub mod Ties
