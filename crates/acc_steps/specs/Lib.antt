pub mod Deeds
pub mod Lines
pub mod Pictures
pub mod Scenes
pub mod Walks
