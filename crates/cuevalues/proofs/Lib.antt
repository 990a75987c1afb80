pub mod Laying
pub mod Rules
