pub mod Head
pub mod Dealing
pub mod Calls
pub mod Play
pub mod Storing
