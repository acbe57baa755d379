pub mod Putting
pub mod ReportRows
