pub mod Places
pub mod Summing
pub mod Whole
