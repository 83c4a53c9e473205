-- what a line's reading is, and a record's line
pub mod Readings
pub mod Writing
-- and when a reading's fields are in their forms
pub mod Lines
