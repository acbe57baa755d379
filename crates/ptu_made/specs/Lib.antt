pub mod Generator
pub mod Photon
pub mod Unread
pub mod Made
pub mod Records
