pub mod Rows
pub mod Cells
pub mod Counts
pub mod Totals
pub mod MarkerRows
pub mod Lasts
