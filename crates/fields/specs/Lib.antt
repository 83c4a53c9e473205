-- what a field is, read and written
pub mod Digits
pub mod Parts
pub mod Series
pub mod Out
pub mod Forms
-- and its laws
pub mod Numbers
pub mod Seams
pub mod Puts
pub mod Packing
pub mod Trips
pub mod Widths
pub mod Values
