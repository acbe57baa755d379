pub mod Joins
pub mod JoinLaws
pub mod Sums
pub mod Counting
pub mod Rowed
pub mod FewWraps
