pub mod Refusing
pub mod Single
pub mod Protection
