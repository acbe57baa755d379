pub mod Texts
pub mod Bins
pub mod States
pub mod LongTrace
