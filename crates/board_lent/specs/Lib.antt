pub mod Calls
pub mod Checks
pub mod Heads
