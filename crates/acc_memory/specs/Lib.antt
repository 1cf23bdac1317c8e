pub mod Memories
pub mod Values
pub mod inner
pub mod worked
