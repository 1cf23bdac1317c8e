pub mod Awaits
pub mod Counted
pub mod Labels
pub mod Lives
pub mod Ops
pub mod Pages
pub mod Values
pub mod worked
