pub mod ApartOperations
pub mod Placements
pub mod Spellings
pub mod Takes
pub mod UnseenOperations
