pub mod Elements
pub mod Values
pub mod Laws
pub mod Lines
