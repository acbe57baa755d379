pub mod Firsts
pub mod Steps
pub mod BinSteps
pub mod Ends
pub mod Rising
pub mod Rows
