pub mod Numbers
pub mod Nested
pub mod Bins
pub mod Settled
pub mod Pushed
pub mod Totals
pub mod Rows
