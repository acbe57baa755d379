pub mod Feeds
pub mod Tables
mod Takes
mod OneByOne
mod Suits
