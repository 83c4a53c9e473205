mod Ranges
pub mod Single
