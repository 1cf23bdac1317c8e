pub mod Checks
pub mod Findings
pub mod Helps
pub mod Languages
pub mod Places
pub mod Told
