pub mod TraceOutcomes
pub mod TraceOrder
pub mod TraceTexts
pub mod TracePieces
pub mod TraceLaws
