pub mod Single
-- the laws of splitting
pub mod Joining
pub mod Places
pub mod Fronts
pub mod Blocks
pub mod Lending
