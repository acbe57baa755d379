pub mod Rows
pub mod Puts
pub mod Meanings
pub mod Walks
pub mod ReadBack
