pub mod Places
pub mod Laying
