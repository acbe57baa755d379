pub mod FoldCounts
pub mod Folded
pub mod Fold
