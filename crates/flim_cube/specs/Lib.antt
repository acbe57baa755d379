pub mod Bytes
pub mod Cells
pub mod CubeCounts
pub mod Cube
