pub mod FirstTraces
pub mod TraceSteps
pub mod TraceFeeds
