pub mod Steps
pub mod Ascii
pub mod Text
pub mod Classes
