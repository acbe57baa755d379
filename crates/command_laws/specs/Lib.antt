pub mod Ends
pub mod ToldFiles
