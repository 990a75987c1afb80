pub mod Rows
pub mod Parties
pub mod Pods
pub mod Keeps
pub mod Permits
