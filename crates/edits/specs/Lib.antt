pub mod InRows
pub mod Storing
pub mod Lending
pub mod Parts
