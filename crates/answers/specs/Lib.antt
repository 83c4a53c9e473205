-- the bytes of answer lines and closing lines
pub mod Answering
-- and their theorems
pub mod Lines
