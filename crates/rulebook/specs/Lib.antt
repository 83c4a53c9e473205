-- Document 01 as definitions, in its order
pub mod Names
pub mod Lines
pub mod Kept
pub mod Prices
pub mod Outcomes
pub mod Judging
pub mod Day
pub mod Account
pub mod Rules
-- and two words that contracts say of it; its theorems stand in proofs/
pub mod Cases
