pub mod Layout
pub mod View
pub mod Writing
pub mod Refining
pub mod Rules
