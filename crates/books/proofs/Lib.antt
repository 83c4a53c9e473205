-- What follows from the layout and the writing of a state
pub mod Refining
pub mod Judged
pub mod Kept
