pub mod Explanations
pub mod Statuses
pub mod Words
pub mod worked
