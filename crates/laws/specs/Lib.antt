pub mod Tests
pub mod Tables
pub mod Checks
pub mod Numbered
pub mod Rows
