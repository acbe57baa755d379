pub mod Rows
pub mod Behind
pub mod MadeEvents
