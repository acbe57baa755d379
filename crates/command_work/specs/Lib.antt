pub mod Outcomes
pub mod Behaviours
pub mod Endings
pub mod Works
pub mod Pieces
pub mod RecordsWork
