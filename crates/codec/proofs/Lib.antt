pub mod Single
-- a line that is put whole
pub mod Whole
-- the theorems of readings and lines
pub mod EachKind
pub mod Lines
pub mod Examples
