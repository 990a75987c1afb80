pub mod Types
pub mod Choices
pub mod Trees
pub mod Rows
pub mod Outcomes
pub mod Leaves
pub mod Pods
pub mod Survey
