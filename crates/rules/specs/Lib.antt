-- the test and what it means
pub mod Testing
pub mod Meaning
-- and the rows as the code tries them
pub mod Passing
pub mod Agreeing
