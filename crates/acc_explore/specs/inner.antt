pub mod Apart
pub mod Comparing
pub mod Leaves
pub mod Searching
pub mod Telling
pub mod Unseen
