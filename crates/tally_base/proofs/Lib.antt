pub mod Reasons
pub mod Rows
pub mod BlockRows
pub mod Floors
pub mod Sorted
pub mod Sums
