pub mod Reports
pub mod RunLaws
pub mod Demo
