pub mod Turns
pub mod Passing
