pub mod PickOutcomes
pub mod PickLaws
