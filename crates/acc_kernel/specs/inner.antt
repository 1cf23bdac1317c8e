pub mod Columns
pub mod JobViews
pub mod RowTables
pub mod Running
pub mod Scans
