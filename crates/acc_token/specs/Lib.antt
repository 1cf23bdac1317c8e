pub mod Faults
pub mod Texts
pub mod Tokens
pub mod Turns
pub mod inner
