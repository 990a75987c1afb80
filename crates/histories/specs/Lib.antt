pub mod Cues
pub mod Parties
pub mod Choosing
pub mod Plain
pub mod Held
pub mod Histories
