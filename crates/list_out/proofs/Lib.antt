pub mod Bodies
pub mod Growing
pub mod Final
pub mod StepTexts
pub mod Rows
