pub mod Rows
pub mod Gives
pub mod Takes
pub mod Parts
pub mod Feeds
pub mod Ends
pub mod Stays
pub mod CanBeWritten
