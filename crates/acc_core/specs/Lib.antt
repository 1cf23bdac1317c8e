pub mod Enabled
pub mod Following
pub mod Legality
pub mod Machine
pub mod Progress
pub mod Worlds
pub mod inner
pub mod worked
