pub mod Counting
pub mod Pages
pub mod Retelling
pub mod Standing
