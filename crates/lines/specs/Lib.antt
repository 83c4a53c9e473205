-- the lines of an input
pub mod Splitting
-- and a day of blocks
pub mod Blocks
