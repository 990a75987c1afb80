pub mod Hex
pub mod Parts
pub mod Values
pub mod Pages
