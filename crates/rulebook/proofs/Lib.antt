-- What follows from document 01
pub mod Cases
pub mod Retries
pub mod Sums
pub mod Keeping
pub mod Forms
pub mod Limits
pub mod Examples
