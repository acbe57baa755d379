pub mod Engine
pub mod Give
pub mod Part
pub mod Parts
