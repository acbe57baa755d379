pub mod Rows
pub mod Shown
pub mod Proved
pub mod PickEnds
