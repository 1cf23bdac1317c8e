pub mod Lines
pub mod Prints
pub mod Puts
pub mod Reports
pub mod Totals
pub mod inner
