pub mod Layout
pub mod Laws
pub mod Places
pub mod Lines
