pub mod Settling
pub mod Standing
pub mod Passing
