-- what a reader has to believe
pub mod Table
pub mod Messages
-- and its laws
pub mod Parts
pub mod Laying
