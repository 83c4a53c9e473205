pub mod Calling
pub mod Blocks
pub mod Keeping
pub mod Taking
pub mod Indexing
pub mod Totals
pub mod Recording
