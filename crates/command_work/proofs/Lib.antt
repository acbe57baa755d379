pub mod Told
pub mod Once
pub mod Pieces
pub mod PlanTold
pub mod RestEnds
pub mod Reading
