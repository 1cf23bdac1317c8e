pub mod Ends
pub mod Joined
mod LongTexts
