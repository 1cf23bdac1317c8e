pub mod Chained
pub mod Keys
pub mod Lends
pub mod Links
pub mod Ownership
pub mod Segments
pub mod Wired
