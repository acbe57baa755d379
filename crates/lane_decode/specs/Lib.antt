pub mod Lanes
pub mod InColumns
pub mod Staying
