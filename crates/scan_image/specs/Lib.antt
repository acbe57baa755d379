pub mod Places
pub mod Lines
pub mod Strips
pub mod ImageCounts
pub mod Image
pub mod Behind
pub mod Pushed
