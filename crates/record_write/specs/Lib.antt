pub mod Picked
pub mod Picker
pub mod Writing
