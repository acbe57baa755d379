pub mod HeaderText
pub mod Lines
