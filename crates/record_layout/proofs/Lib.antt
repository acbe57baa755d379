pub mod KindLemmas
mod RowLemmas
pub mod Growing
mod Rows
