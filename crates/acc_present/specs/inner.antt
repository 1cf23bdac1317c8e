pub mod Invariants
pub mod Keys
pub mod Lending
