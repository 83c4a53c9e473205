pub mod Single
-- the laws of whole messages
pub mod Laying
pub mod Trips
-- and what is promised
pub mod Orders
