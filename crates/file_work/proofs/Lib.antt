pub mod Ends
pub mod EventSteps
