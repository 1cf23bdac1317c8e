pub mod Drafts
pub mod Lifetimes
