pub mod FileOutcomes
pub mod CountPieces
pub mod CountLaws
pub mod BodyPieces
pub mod EventLines
pub mod EventLaws
