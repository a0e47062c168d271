pub mod Tricks
pub mod Hands
pub mod Sizes
