pub mod Laying
pub mod Order
pub mod Values
