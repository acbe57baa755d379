pub mod Chosen
pub mod Giving
pub mod Late
pub mod Texts
pub mod Pieces
pub mod Ends
