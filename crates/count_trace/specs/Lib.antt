pub mod TraceCounts
pub mod Trace
