-- a text in words, and the test of a form
pub mod Words
pub mod Fitting
-- and their laws
pub mod Spelling
pub mod Exactly
pub mod Sizes
pub mod Together
