mod Prefix
mod Filled
pub mod Added
pub mod Chosen
pub mod Table
pub mod Wide
