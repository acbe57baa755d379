pub mod Rising
pub mod Lists
pub mod Sums
pub mod Between
pub mod Kept
pub mod Carries
