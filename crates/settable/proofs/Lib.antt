pub mod Floats
pub mod Bytes
