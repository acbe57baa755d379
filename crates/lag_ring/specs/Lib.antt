pub mod Cells
pub mod Ring
pub mod Bytes
pub mod Binned
pub mod Pairings
