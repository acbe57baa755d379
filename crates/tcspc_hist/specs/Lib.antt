pub mod HistogramCounts
pub mod Hist
pub mod Picked
