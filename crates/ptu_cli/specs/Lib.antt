pub mod Commands
pub mod Requests
pub mod Edge
pub mod Behaviours
pub mod Runs
pub mod Tables
pub mod Cases
pub mod CommandCases
