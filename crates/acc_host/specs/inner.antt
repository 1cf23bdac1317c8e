pub mod Moves
pub mod Unread
