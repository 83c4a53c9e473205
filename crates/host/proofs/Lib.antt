pub mod Single
pub mod Telling
