pub mod Verdicts
pub mod Comparing
pub mod Doors
pub mod Kinds
