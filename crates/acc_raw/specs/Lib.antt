pub mod Blocks
pub mod Indices
pub mod Lends
pub mod Windows
pub mod inner
