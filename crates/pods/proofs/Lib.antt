pub mod Numbers
pub mod Bodies
pub mod Sizes
pub mod Turns
pub mod Starts
pub mod Counted
