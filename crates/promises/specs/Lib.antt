-- Demand 3: what it is about
pub mod Day
pub mod Kinds
