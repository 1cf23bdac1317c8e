pub mod Loops
pub mod Values
