pub mod Refusing
pub mod Saying
pub mod Sides
pub mod Protection
pub mod Beyond
pub mod Trying
pub mod Alike
