pub mod Checked
pub mod Explorations
pub mod Readers
pub mod Scripts
pub mod Steps
