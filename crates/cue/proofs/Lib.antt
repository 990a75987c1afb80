pub mod Reading
pub mod Holding
pub mod Standing
