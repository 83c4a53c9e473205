pub mod Looking
pub mod Counting
pub mod Rulings
pub mod Standing
pub mod Granting
pub mod Targets
