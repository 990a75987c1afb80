pub mod Values
pub mod Sound
pub mod Complete
pub mod Trees
pub mod Ahead
pub mod Reading
pub mod Chains
