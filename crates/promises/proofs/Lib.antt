-- Demand 3: why it holds
pub mod Showing
pub mod Striking
pub mod Carrying
pub mod Closing
pub mod Attempts
pub mod Fresh
pub mod Blocks
-- and what it says
pub mod Promises
pub mod BlockPromises
pub mod Examples
pub mod Silence
